-- The contract of what is public determines its result, where it is known which bytes the reader has left: two results that it allows for the same
-- arguments tell as many bytes, which are the same, and leave the same. Open are the bytes past those, and which error is given. The law speaks of
-- the contract as the check reads it off the source, and of slices of one length, which a slice keeps.
use Rattle.std.proofs.Common.{◌≡◌, ◌<◌, ◌≤◌, ◌+◌, ℕ, List, length, take, drop, Option, Some, None, Ok, inl, inr, arith, sym, ap, ◌∙◌, take_at, drop_at, length-append, length-take-le}
use Rattle.std.proofs.lemmas.Bool.{cases_lt}
use Rattle.std.specs.Io.KnownBytes.{Consumes, IsAtEnd}
use Rattle.std.specs.declared.io.traits.Read.{Ghosts}
use denote.RattleType.{RattleType}
use Rattle.octets.proofs.reading.read_full.Reads as read_full

-- what was read of the bytes that a reader had, in a room of so many
record Came (had : List ℕ) (left : Option (List ℕ)) (bytes : List ℕ) (n : ℕ) : Type 0 where
  pub within : n ≤ length bytes
  pub first : Consumes (Some had) left (take n bytes)
  pub all : n < length bytes → IsAtEnd left

-- the bytes that a reader had are those that were read and those that are left
parts : (had left bytes : List ℕ) (n : ℕ) → Came had (Some left) bytes n → length had ≡ n + length left
parts had left bytes n r =
    let whole : length had ≡ length (take n bytes) + length left = ap length r.first ∙ length-append (take n bytes) left in
    omega (arith, length-take-le n bytes r.within)

-- no more were read than the other time, since there was room for more only at the end
no_more : (had left left' bytes bytes' : List ℕ) (n n' : ℕ) → length bytes ≡ length bytes'
    → Came had (Some left) bytes n → Came had (Some left') bytes' n' → n ≤ n'
no_more had left left' bytes bytes' n n' e r r' = elim (cases_lt n' n) [
  | inl less ↦
      let none : length left' ≡ 0 = ap length (r'.all (omega (arith, r.within))) in
      omega (arith, parts had left bytes n r, parts had left' bytes' n' r')
  | inr most ↦ omega arith
]

-- both times as many were read, the same ones, and the same are left
one_reading : (had : List ℕ) (left left' : Option (List ℕ)) (bytes bytes' : List ℕ) (n n' : ℕ) → length bytes ≡ length bytes'
    → Came had left bytes n → Came had left' bytes' n' → (n ≡ n') × (take n bytes ≡ take n' bytes') × (left ≡ left')
one_reading had None left' bytes bytes' n n' e r r' = absurd r.first
one_reading had (Some left) None bytes bytes' n n' e r r' = absurd r'.first
one_reading had (Some left) (Some left') bytes bytes' n n' e r r' =
    let few = no_more had left left' bytes bytes' n n' e r r' in
    let many = no_more had left' left bytes' bytes n' n (sym e) r' r in
    let same : n ≡ n' = omega arith in
    let long = length-take-le n bytes r.within in
    let long' : length (take n' bytes') ≡ n = omega (arith, length-take-le n' bytes' r'.within) in (
      same,
      sym (take_at (take n bytes) left n long) ∙ ap (take n) (sym r.first ∙ r'.first) ∙ take_at (take n' bytes') left' n long',
      ap Some (sym (drop_at (take n bytes) left n long) ∙ ap (drop n) (sym r.first ∙ r'.first) ∙ drop_at (take n' bytes') left' n long'),
    )

pub read_full_pinned : (T : RattleType) (L : _) (R : Ghosts T.Denot) (d : _) (κs : _) (a : _) (n n' : ℕ) (w w' : _) (had : List ℕ)
    → read_full.Post T L R d κs a (Ok n) w → read_full.Post T L R d κs a (Ok n') w'
    → R.remaining a.0.now ≡ Some had → length w.1.0.now ≡ length w'.1.0.now
    → (n ≡ n') × (take n w.1.0.now ≡ take n' w'.1.0.now) × (R.remaining w.0.now ≡ R.remaining w'.0.now)
read_full_pinned T L R d κs a n n' w w' had p q known e =
    let r : Came had (R.remaining w.0.now) w.1.0.now n = record { within = p.0.0; first = rw (← known) p.1.0; all = p.1.1 } in
    let r' : Came had (R.remaining w'.0.now) w'.1.0.now n' = record { within = q.0.0; first = rw (← known) q.1.0; all = q.1.1 } in
    one_reading had _ _ _ _ n n' e r r'
