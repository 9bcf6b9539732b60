-- What build answers by its tests, and that the pool that the model builds then stands in the words.
use Prim.Native.Nat.{ℕ, ◌-◌, ◌*◌, ◌≤◌, ◌<◌}
use native.Mathlib.Omega.{arith}
use borrow.Rule.Slice.PartMut.{put_mid, post_of}
use mathlib.Core.Path.{◌≡◌, refl, sym, ap, ap₂, ◌∙◌}
use mathlib.Core.List.{List, [], ◌∷◌, ◌++◌, append-nil}
use Rattle.std.specs.Prelude.{Option, None, Some, Ok, Err}
use lib.ListN.{length, take, drop, length-append, length-drop, drop_of_length-le}
use lib.Seq.{length-take-le, take_at, drop_at}
use Rattle.model.specs.Build.{leaf_count}
use Rattle.model.specs.Limits.{most_nodes}
use Rattle.model.specs.Pool as Pool
use Rattle.model.specs.Pool.{Pool, nodes_for}
use Rattle.model.specs.Sound.{Sound}
use Rattle.model.specs.Word.{marks_of}
use Rattle.model.proofs.PoolCases.{build_outcomes}
use Rattle.model.proofs.PoolSound.{build_sound}
use Rattle.build.specs.Built as Built
use Rattle.build.proofs.LeafMarks.{marks_of_length}
use Rattle.build.proofs.OnePool.{builds}
use Rattle.pool.specs.Node.{nodes_in}
use Rattle.pool.specs.Layout.{Laid}
use Rattle.tree.specs.declared.root.Held.{Held}
use Rattle.window.specs.Calls.{NoPool, BuildsTo}
use Rattle.window.specs.Layout.{Counted, Stands, trailer_of}
use Rattle.order.specs.declared.answer.Refusal.TheVariants.{Full, WrongSize, TooLong}
use Rattle.window.proofs.OneState.{counted_one, nodes_are, nodes_length}

-- ---- the marks that are built

module _ (words : List ℕ) (len : ℕ) (given : len ≤ 64 * length words) where
  pub built_length : length (take len (marks_of words)) ≡ len
  built_length = length-take-le len (marks_of words) (omega (arith, marks_of_length words))

  -- the model refuses exactly where there are too few nodes
  pub refused : (n : ℕ) → Pool.build n (take len (marks_of words)) ≡ None → n < 2 * leaf_count len - 1
  unfolding nodes_for
  refused n =
      build_outcomes (λ (o : Option Pool). o ≡ None → n < 2 * leaf_count len - 1) n (take len (marks_of words))
      (λ h _. rw built_length at h) (λ _ e. let never : ◌≡◌ {A = ℕ} 0 1 = cc in absurd (omega arith))

  pub accepted : (n : ℕ) (p : Pool) → Pool.build n (take len (marks_of words)) ≡ Some p → 2 * leaf_count len - 1 ≤ n
  unfolding nodes_for
  accepted n p =
      build_outcomes (λ (o : Option Pool). o ≡ Some p → 2 * leaf_count len - 1 ≤ n) n (take len (marks_of words))
      (λ _ e. let never : ◌≡◌ {A = ℕ} 0 1 = cc in absurd (omega arith)) (λ h _. rw built_length at h)

-- ---- the answers

module _ (ws words : List ℕ) (len : ℕ) where
  pub no_built : NoPool ws → BuildsTo ws words len (Err WrongSize) ws
  no_built d = record {
    no_pool = λ _. (refl, refl);
    too_long = λ n c _. absurd (d n c);
    full = λ n c _ _. absurd (d n c);
    built = λ n p c _ _. absurd (d n c);
  }

  module _ (n : ℕ) (c : Counted ws n) where
    pub long_built : 64 * length words < len → BuildsTo ws words len (Err TooLong) ws
    long_built h = record {
      no_pool = λ d. absurd (d n c);
      too_long = λ _ _ _. (refl, refl);
      full = λ _ _ k _. absurd (omega arith);
      built = λ _ _ _ k _. absurd (omega arith);
    }

    pub full_built : len ≤ 64 * length words → n < 2 * leaf_count len - 1 → BuildsTo ws words len (Err Full) ws
    full_built g h = record {
      no_pool = λ d. absurd (d n c);
      too_long = λ _ _ k. absurd (omega arith);
      full = λ _ _ _ _. (refl, refl);
      built = λ m p c' k e. absurd (omega (arith, accepted words len g m p e, counted_one ws n m c c'));
    }

    pub done_built : (ws' : List ℕ) → len ≤ 64 * length words → 2 * leaf_count len - 1 ≤ n
        → ((p : Pool) → Pool.build n (take len (marks_of words)) ≡ Some p → Stands ws' n p) → BuildsTo ws words len (Ok len) ws'
    done_built ws' g h s = record {
      no_pool = λ d. absurd (d n c);
      too_long = λ _ _ k. absurd (omega arith);
      full = λ m c' _ e. absurd (omega (arith, refused words len g m e, counted_one ws n m c c'));
      built = λ m p c' _ e. let same : n ≡ m = counted_one ws n m c c' in (refl, rw same at (s p (rw (← same) at e)));
    }

-- ---- the words

-- nodes in which a sound pool is laid out, and its trailer after them
pub stands_with : (w six : List ℕ) (n : ℕ) (p : Pool) → Laid w n p → Sound n p → 1 ≤ n → n ≤ most_nodes → six ≡ trailer_of n p → Stands (w ++ six) n p
unfolding trailer_of
stands_with w six n p l fine least most e = record {
  counted = record { words = length-append w six ∙ omega (arith, l.words, ap length e); some = least; most = most };
  nodes = rw (sym (take_at w six (n * 6) l.words)) at l;
  trailer = drop_at w six (n * 6) l.words ∙ e;
  sound = fine;
}

-- the same of a pool that was built
pub stands_in : (w : List ℕ) (n : ℕ) (r : Held) (p : Pool) → Built.BuiltAs w n r p → Sound n p → 1 ≤ n → n ≤ most_nodes
    → Stands (w ++ r.tree.node ∷ r.tree.length ∷ r.chain.first ∷ r.chain.count ∷ n ∷ 0 ∷ []) n p
unfolding trailer_of
stands_in w n r p s fine least most =
    stands_with w (r.tree.node ∷ r.tree.length ∷ r.chain.first ∷ r.chain.count ∷ n ∷ 0 ∷ []) n p s.laid fine least most
    (λ i. s.root i ∷ s.total i ∷ s.first i ∷ s.count i ∷ n ∷ 0 ∷ [])

-- a trailer put over all that stood behind the nodes
pub put_behind : (w behind six : List ℕ) (a : ℕ) → length w ≡ a → put_mid a (length (w ++ behind) - a) (w ++ behind) six ≡ w ++ six
put_behind w behind six a e =
    let rest : post_of a (length (w ++ behind) - a) (w ++ behind) ≡ [] =
    drop_of_length-le (drop a (w ++ behind)) {i = length (w ++ behind) - a} (omega (arith, length-drop a (w ++ behind))) in
    ap₂ ◌++◌ (take_at w behind a e) (ap (◌++◌ six) rest ∙ append-nil six)

-- what the tests have shown where a pool is built
pub record Fits (ws words : List ℕ) (len n : ℕ) : Type 0 where
  pub counted : Counted ws n
  pub given : len ≤ 64 * length words
  pub enough : 2 * leaf_count len - 1 ≤ n

-- what building the tree leaves in the nodes
abbrev pub Leaves : List ℕ → ℕ → ℕ → List ℕ → Held → Type 0
Leaves words len n w r = (p : Pool) → Pool.build n (take len (marks_of words)) ≡ Some p → Built.BuiltAs w n r p

module _ {ws words : List ℕ} {len n : ℕ} (f : Fits ws words len n) where
  pub fits_room : Built.Room (take (n * 6) ws) words len
  fits_room = record {
    whole = rw (nodes_are ws n f.counted) (nodes_length ws n f.counted);
    most = rw (nodes_are ws n f.counted) f.counted.most;
    given = f.given;
    enough = rw (nodes_are ws n f.counted) f.enough;
  }

  -- some pool is built
  found : (p : Pool) × (Pool.build n (take len (marks_of words)) ≡ Some p)
  unfolding nodes_for
  found = builds n (take len (marks_of words)) (rw (built_length words len f.given) f.enough)

  module _ (w : List ℕ) (r : Held) (l : Leaves words len (nodes_in (take (n * 6) ws)) w r) where
    left : Leaves words len n w r
    left = rw (nodes_are ws n f.counted) at l

    -- what stands in the pool, once its trailer is put behind the nodes
    pub after_stands : (six : List ℕ) → six ≡ r.tree.node ∷ r.tree.length ∷ r.chain.first ∷ r.chain.count ∷ n ∷ 0 ∷ []
        → BuildsTo ws words len (Ok len) (w ++ six)
    after_stands six e =
        done_built ws words len n f.counted _ f.given f.enough
        (λ p b. rw e (stands_in w n r p (left p b) (build_sound n (take len (marks_of words)) p b) f.counted.some f.counted.most))
