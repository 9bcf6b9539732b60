-- The floor is sharp: a pool of any number of nodes can come to have no room for a mark while it holds exactly `least_full` marks, so no greater
-- number could be promised. It is built with as many leaves as its nodes allow, the rightmost of a single mark; then the first leaf is filled, and of
-- each other all but 33 marks are taken out.
use Prim.Native.Nat.{ℕ, zero, suc, ◌+◌, ◌-◌, ◌*◌, ◌≤◌, ◌<◌}
use native.Mathlib.Omega.{arith}
use mathlib.Core.Path.{◌≡◌, refl, ap, ◌∙◌}
use mathlib.Core.Bool.{Bool, false}
use mathlib.Core.List.{List, [], ◌++◌, map}
use Rattle.std.specs.Prelude.{Option, Some}
use lib.ListN.{length, replicate, length-replicate}
use Rattle.model.specs.Build as Build
use Rattle.model.specs.Build.{leaf_built, leaf_count}
use Rattle.model.specs.Edit.{leaf_at}
use Rattle.model.specs.Limits.{floor_for, most_leaves}
use Rattle.model.specs.Pool.{Pool, build, nodes_for, numbers_from}
use Rattle.model.specs.Sharp.{Becomes, Change, Reached, Sharp, out}
use Rattle.model.specs.Edit.{leaf_least}
use Rattle.model.specs.Sound.{Sound, Whole, leaf_most}
use Rattle.model.specs.Tree.{Tree, leaf, fork, first_leaf, leaf_total, size}
use Rattle.model.proofs.Floor.{leaf_at_most, leaves_some, means_full, sound_leaves, whole_sized}
use Rattle.model.proofs.NumbersFrom.{numbers_from_length}
use Rattle.model.proofs.PoolCases.{build_outcomes}
use Rattle.model.proofs.PoolSound.{build_sound}
use Rattle.model.proofs.Thinned.{Ended, Thins, becomes_both, becomes_sound, becomes_thin, build_short, fill, leaf_count_short, leaf_front, thin_before, thin_behind, thins_fork}

-- ---- the build

-- a built pool whose nodes are all but taken, and whose rightmost leaf of several holds a single mark
record Begun (n : ℕ) : Type 0 where
  given : List Bool
  pool : Pool
  builds : build n given ≡ Some pool
  few : length pool.free < 2
  ended : Ended pool.tree

begun : (n : ℕ) → 1 ≤ n → Begun n
unfolding nodes_for
begun n least =
    let k : ℕ = most_leaves n - 1 in
    let xs : List Bool = replicate (leaf_built * k + 1) false in
    let all : length xs ≡ leaf_built * k + 1 = length-replicate (leaf_built * k + 1) false in
    let need : ℕ = nodes_for (leaf_count (length xs)) in
    let many : leaf_count (length xs) ≡ suc k = ap leaf_count all ∙ leaf_count_short k in
    build_outcomes (λ (o : Option Pool). build n xs ≡ o → Begun n) n xs
    (λ short _. absurd (omega arith))
    (λ room e. record {
      given = xs;
      pool = record { tree = Build.build xs; free = numbers_from need (n - need) };
      builds = e;
      few = omega (arith, numbers_from_length need (n - need));
      ended = build_short k xs all;
    })
    refl

-- ---- marks taken out

-- two leaves or more: a full one, one of a single mark and the others
floor_several : (leaves s : ℕ) → 2 ≤ leaves → s + leaf_least + leaf_least ≡ leaf_least * leaves + leaf_most + 1 → s ≡ floor_for leaves
unfolding floor_for
floor_several zero s h e = absurd (omega arith)
floor_several (suc zero) s h e = absurd (omega arith)
floor_several (suc (suc others)) s h e = omega arith

-- what is left: as few marks as the leaves can hold, the first leaf still full
record Left (t u : Tree) : Type 0 where
  thins : Thins t u
  held : size u ≡ floor_for (leaf_total u)
  first : length (first_leaf u) ≡ leaf_most

left : (t : Tree) → Whole t → length (first_leaf t) ≡ leaf_most → Ended t → (u : Tree) × Left t u
unfolding size leaf_total first_leaf floor_for
left (leaf n xs) w e d = (leaf n xs, record { thins = ([], refl); held = omega arith; first = e })
left (fork n l r) w e d =
    let a = thin_behind l w.0 e in
    let b = thin_before r w.1 d in (
      fork n a.0 b.0,
      record {
        thins = thins_fork n l r a.0 b.0 a.1 b.1;
        held =
            floor_several (leaf_total a.0 + leaf_total b.0) (size a.0 + size b.0) (omega (arith, leaves_some a.0, leaves_some b.0))
            (omega (arith, a.2, b.2));
        first = a.3;
      },
    )

-- ---- the law

first_most : (t : Tree) → Whole t → length (first_leaf t) ≤ leaf_most
first_most t w = let s = whole_sized t w in rw (leaf_front 0 t s) at (leaf_at_most 0 0 t s)

-- such a pool has no room before its first mark
sharp : (n : ℕ) (p : Pool) → Sound n p → length p.free < 2 → length (first_leaf p.tree) ≡ leaf_most
    → size p.tree ≡ floor_for (leaf_total p.tree) → Sharp n 0 p
sharp n p s few first held =
    let front = ap length (leaf_front 0 p.tree (whole_sized p.tree s.whole)) in
    let leaf_full : length (leaf_at 0 p.tree) ≡ leaf_most = omega arith in
    record {
      sound = s;
      within = omega arith;
      leaf_full = leaf_full;
      few_free = few;
      refused = means_full 0 p leaf_full few;
      held = held ∙ ap floor_for (sound_leaves n p s few);
    }

-- from a pool whose first leaf is full
finish : (n : ℕ) (p : Pool) → Sound n p → length p.free < 2 → length (first_leaf p.tree) ≡ leaf_most → Ended p.tree
    → (cs : List Change) × (q : Pool) × Becomes cs p q × Sharp n 0 q
finish n p s few first d =
    let u = left p.tree s.whole first d in
    let is = u.1.thins.0 in
    let q : Pool = record { tree = u.0; free = p.free } in
    let thinned = becomes_thin is p.tree u.0 p.free s.balanced u.1.thins.1 in
    (map out is, q, thinned, sharp n q (becomes_sound n (map out is) p q thinned s) few u.1.first u.1.held)

-- In n nodes, whatever n, a build and edits lead to a pool that has no room for a mark while it holds `least_full` marks. `floor` says that none
-- lacks room at fewer: so this is the number at which Full begins.
pub floor_reached : (n : ℕ) → 1 ≤ n → Reached n
floor_reached n least =
    let b = begun n least in
    let s = build_sound n b.given b.pool b.builds in
    let f = fill (leaf_most - length (first_leaf b.pool.tree)) n b.pool s (omega (arith, first_most b.pool.tree s.whole)) b.ended in
    let g = finish n f.1 f.3.sound (omega (arith, b.few, ap length f.3.free)) f.3.first f.3.ended in
    record {
      given = b.given;
      built = b.pool;
      builds = b.builds;
      changes = f.0 ++ g.0;
      pool = g.1;
      becomes = becomes_both f.0 g.0 b.pool f.1 g.1 f.2 g.2;
      place = 0;
      sharp = g.3;
    }

-- the same of the pool alone
pub floor_sharp : (n : ℕ) → 1 ≤ n → (i : ℕ) × (p : Pool) × Sharp n i p
floor_sharp n least = let r = floor_reached n least in (r.place, r.pool, r.sharp)
