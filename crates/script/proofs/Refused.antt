-- A line that is not answered 0 changes nothing: by its kind, as an order, a build and a new pool do.
use Prim.Native.Nat.{ℕ, ◌*◌}
use mathlib.Core.Path.{◌≡◌, refl, ap}
use mathlib.Core.List.{List}
use Rattle.std.specs.Prelude.{Option, None, Some}
use lib.ListN.{length, take}
use Rattle.model.specs.Pool as Pool
use Rattle.model.specs.Pool.{Pool}
use Rattle.model.specs.Word.{marks_of}
use Rattle.model.proofs.Cases.{by_leb, by_test}
use Rattle.order.specs.Answer.{code}
use Rattle.grammar.specs.Lines.{dumping, loading, ordering, pooling}
use Rattle.demands.proofs.Refusals.{refused_changes_nothing}
use Rattle.script.specs.Prints.{State, answered, built, damaged, holding, leaves, left_by, load_answer, loaded, nothing, now_holding, sized}
use Rattle.script.specs.Promises.{RefusedLineChangesNoWord, RefusedLineLeavesAll}

-- a load that is refused makes no pool
load_refused : (n len : ℕ) (ws : List ℕ) (s : State) → (code (load_answer n len ws) ≡ 0 → ⊥) → now_holding n (loaded n len ws) s ≡ s
unfolding load_answer loaded now_holding code
load_refused n len ws s refused =
    by_leb len (64 * length ws)
    (λ t h. rw (loaded, t) (made (Pool.build n (take len (marks_of ws))) (λ e. refused (rw (load_answer, t) e))))
    (λ t h. rw (loaded, t))
  where
    made : (o : Option Pool) → (code (built len o) ≡ 0 → ⊥) → now_holding n o s ≡ s
    made None e = refl
    made (Some p) e = absurd (e refl)

pub refused_line_leaves_all : RefusedLineLeavesAll
unfolding leaves left_by answered code
refused_line_leaves_all None s refused = refl
refused_line_leaves_all (Some (pooling n)) s refused =
    by_test (sized n) (λ t. absurd (refused (rw (answered, t)))) (λ t. rw (left_by, t))
refused_line_leaves_all (Some (loading len ws)) nothing refused = refl
refused_line_leaves_all (Some (loading len ws)) (holding n p) refused = load_refused n len ws (holding n p) refused
refused_line_leaves_all (Some (loading len ws)) (damaged n) refused = load_refused n len ws (damaged n) refused
refused_line_leaves_all (Some (ordering o)) nothing refused = refl
refused_line_leaves_all (Some (ordering o)) (holding n p) refused = ap (holding n) (refused_changes_nothing o p refused)
refused_line_leaves_all (Some (ordering o)) (damaged n) refused = refl
refused_line_leaves_all (Some dumping) s refused = refl

pub refused_line_changes_no_word : RefusedLineChangesNoWord
refused_line_changes_no_word w s ws n out n' end ws' out' p refused = p.same (refused_line_leaves_all w s refused)
