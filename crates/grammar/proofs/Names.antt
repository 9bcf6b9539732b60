-- The names of lines, by their bytes.
use Rattle.std.proofs.Common.{ℕ, ◌≡◌, refl, sym, List, length, get_or, false}
use Rattle.std.specs.Prelude.{None, Some}
use Rattle.std.proofs.lemmas.Slice.Eq.{HasBytesAt, text_from_reads}
use Rattle.model.proofs.Cases.{by_test}
use Rattle.text.specs.Text.{same}
use Rattle.text.proofs.Cutting.{same_decides}
use Rattle.grammar.specs.Lines.{first_named, named, spelled}
use Rattle.grammar.specs.declared.fields.Name.{Name}
use Rattle.grammar.specs.declared.fields.Name.TheVariants.{Pool, Load, Insert, Remove, Get, Rank, Select, Gap, Dump}

not_same : (a b : List ℕ) → (a ≡ b → ⊥) → same a b ≡ false
not_same a b n = by_test (same a b) (λ t. absurd (n ((same_decides a b).0 t))) (λ f. f)

-- a name's bytes, and nothing else
pub record Read (bs : List ℕ) (n : Name) : Type 0 where
  pub as_long : length bs ≡ length (spelled n)
  pub bytes : HasBytesAt bs 0 (spelled n)

read_back : (n : Name) → Read (spelled n) n
unfolding spelled
read_back Pool = record { as_long = refl; bytes = (refl, (refl, (refl, (refl, tt)))) }
read_back Load = record { as_long = refl; bytes = (refl, (refl, (refl, (refl, tt)))) }
read_back Insert = record { as_long = refl; bytes = (refl, (refl, (refl, tt))) }
read_back Remove = record { as_long = refl; bytes = (refl, (refl, (refl, tt))) }
read_back Get = record { as_long = refl; bytes = (refl, (refl, (refl, tt))) }
read_back Rank = record { as_long = refl; bytes = (refl, (refl, (refl, (refl, tt)))) }
read_back Select = record { as_long = refl; bytes = (refl, (refl, (refl, tt))) }
read_back Gap = record { as_long = refl; bytes = (refl, (refl, (refl, tt))) }
read_back Dump = record { as_long = refl; bytes = (refl, (refl, (refl, (refl, tt)))) }

-- the name that is spelled so
is_named : (n : Name) → named (spelled n) ≡ Some n
unfolding named first_named spelled same
is_named Pool = refl
is_named Load = refl
is_named Insert = refl
is_named Remove = refl
is_named Get = refl
is_named Rank = refl
is_named Select = refl
is_named Gap = refl
is_named Dump = refl

-- a text of a name's bytes is the name
pub name_read : (n : Name) (bs : List ℕ) → length bs ≡ length (spelled n) → HasBytesAt bs 0 (spelled n) → Some n ≡ named bs
name_read n bs l r = sym (rw (text_from_reads bs (spelled n) l r) (is_named n))

-- and a text of no name's bytes is none
not_named : (bs : List ℕ) → ((n : Name) → Read bs n → ⊥) → None ≡ named bs
unfolding named first_named
not_named bs h =
    let other : (n : Name) → same bs (spelled n) ≡ false = λ n. not_same bs (spelled n) (λ e. h n (rw e (read_back n))) in
    sym
    (rw (named, first_named, other Pool, first_named, other Load, first_named, other Insert, first_named, other Remove, first_named, other Get)
    (rw (first_named, other Rank, first_named, other Select, first_named, other Gap, first_named, other Dump, first_named)))

-- ---- byte by byte, as the code tests them

module _ (bs : List ℕ) where
  -- the text is not of these three bytes
  abbrev pub NotThree : ℕ → ℕ → ℕ → Type 0
  NotThree a b c = length bs ≡ 3 → get_or bs 0 0 ≡ a → get_or bs 1 0 ≡ b → get_or bs 2 0 ≡ c → ⊥

  -- nor of these four
  abbrev pub NotFour : ℕ → ℕ → ℕ → ℕ → Type 0
  NotFour a b c d = length bs ≡ 4 → get_or bs 0 0 ≡ a → get_or bs 1 0 ≡ b → get_or bs 2 0 ≡ c → get_or bs 3 0 ≡ d → ⊥

  pub no_name_read : NotFour 112 111 111 108 → NotFour 108 111 97 100 → NotThree 105 110 115 → NotThree 114 101 109 → NotThree 103 101 116
      → NotFour 114 97 110 107 → NotThree 115 101 108 → NotThree 103 97 112 → NotFour 100 117 109 112 → None ≡ named bs
  unfolding spelled
  no_name_read pool load ins rem get rank sel gap dump =
      not_named bs (elim [
        | Pool ↦ λ r. let b = r.bytes in pool r.as_long b.0 b.1.0 b.1.1.0 b.1.1.1.0
        | Load ↦ λ r. let b = r.bytes in load r.as_long b.0 b.1.0 b.1.1.0 b.1.1.1.0
        | Insert ↦ λ r. let b = r.bytes in ins r.as_long b.0 b.1.0 b.1.1.0
        | Remove ↦ λ r. let b = r.bytes in rem r.as_long b.0 b.1.0 b.1.1.0
        | Get ↦ λ r. let b = r.bytes in get r.as_long b.0 b.1.0 b.1.1.0
        | Rank ↦ λ r. let b = r.bytes in rank r.as_long b.0 b.1.0 b.1.1.0 b.1.1.1.0
        | Select ↦ λ r. let b = r.bytes in sel r.as_long b.0 b.1.0 b.1.1.0
        | Gap ↦ λ r. let b = r.bytes in gap r.as_long b.0 b.1.0 b.1.1.0
        | Dump ↦ λ r. let b = r.bytes in dump r.as_long b.0 b.1.0 b.1.1.0 b.1.1.1.0
      ])
