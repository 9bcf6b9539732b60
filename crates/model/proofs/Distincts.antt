-- Two lists joined have no number twice exactly where neither has, and they share none.
use Prim.Native.Nat.{ℕ}
use mathlib.Core.Path.{◌≡◌, sym}
use mathlib.Core.List.Memᴰ
use mathlib.Core.List.{List, [], ◌∷◌, ◌++◌, Memᴰ}
use mathlib.Core.Logic.{⊎_elim}
use Rattle.model.specs.Sound.{Distinct}

pub distinct_join : (ms ns : List ℕ) → Distinct ms → Distinct ns → ((k : ℕ) → Memᴰ k ms → Memᴰ k ns → ⊥) → Distinct (ms ++ ns)
distinct_join [] ns d e apart = e
distinct_join (m ∷ ms) ns d e apart = (
  λ h. ⊎_elim d.0 (apart m (Memᴰ.head (λ i. m))) (Memᴰ.append_cases ms h),
  distinct_join ms ns d.1 e (λ k h. apart k (Memᴰ.tail h)),
)

pub distinct_first : (ms ns : List ℕ) → Distinct (ms ++ ns) → Distinct ms
distinct_first [] ns d = tt
distinct_first (m ∷ ms) ns d = (λ h. d.0 (Memᴰ.append_left ns h), distinct_first ms ns d.1)

pub distinct_second : (ms ns : List ℕ) → Distinct (ms ++ ns) → Distinct ns
distinct_second [] ns d = d
distinct_second (m ∷ ms) ns d = distinct_second ms ns d.1

pub distinct_apart : (ms ns : List ℕ) → Distinct (ms ++ ns) → (k : ℕ) → Memᴰ k ms → Memᴰ k ns → ⊥
distinct_apart [] ns d k h l = Memᴰ.not-nil h
distinct_apart (m ∷ ms) ns d k h l =
    ⊎_elim (λ (e : k ≡ m). d.0 (Memᴰ.append_right ms (Memᴰ.cast (sym e) l))) (λ (h' : Memᴰ k ms). distinct_apart ms ns d.1 k h' l)
    (Memᴰ.cases_cons h)
