-- The words of a load, gathered field by field: what is left to be read, and what was put in a row so far.
use Prim.Native.Nat.{ℕ, suc, ◌+◌, ◌*◌, ◌≤◌, ◌<◌}
use native.Mathlib.Numerals.{add-one}
use native.Mathlib.Omega.{arith}
use mathlib.Core.Path.{◌≡◌, refl, sym, ap, ◌∙◌}
use mathlib.Core.List.{List, [], ◌∷◌, ◌++◌, append-nil}
use denote.Ref.{Bor}
use Rattle.std.specs.Prelude.{Option, None, Some, IfSome, option_and_then}
use lib.ListN.{length, take, set, length-set}
use lib.Seq.{append_snoc, take-suc-set}
use Rattle.text.specs.Text.{fields, fields_left, hex_word}
use Rattle.grammar.specs.Lines.{hex_words, WordsRead}
use Rattle.text.proofs.Digits.{hex_long}

-- words with some before them
abbrev after : List ℕ → Option (List ℕ) → Option (List ℕ)
after xs o = option_and_then (λ ws. Some (xs ++ ws)) o

-- none before them
after_none : (o : Option (List ℕ)) → after [] o ≡ o
after_none None = refl
after_none (Some ws) = refl

-- one word more
after_one : (xs : List ℕ) (w : ℕ) (o : Option (List ℕ)) → after xs (option_and_then (λ ws. Some (w ∷ ws)) o) ≡ after (xs ++ (w ∷ [])) o
after_one xs w None = refl
after_one xs w (Some ws) = ap {B = Option (List ℕ)} Some (sym (append_snoc xs w ws))

-- a row has room for so many words, and for those that are left to be read; a word and its space are 17 bytes
abbrev pub Room : Option (Bor (List ℕ)) → ℕ → ℕ → Type 0
Room None count n = count ≤ n
Room (Some rest) count n = length rest.now + 17 * count < 17 * n

-- how much is left, as a measure
abbrev pub size_left : Option (Bor (List ℕ)) → ℕ
size_left None = 0
size_left (Some rest) = suc (length rest.now)

-- the rest of a rest is smaller
pub smaller : (rest field : List ℕ) (more : Option (Bor (List ℕ))) → IfSome more (λ m. length field + 1 + length m.now ≡ length rest)
    → size_left more < suc (length rest)
smaller rest field None h = omega arith
smaller rest field (Some m) h = omega arith

-- so many words stand in the row, and those that are left follow them
pub record Gathered (bs was ws : List ℕ) (left : Option (Bor (List ℕ))) (count : ℕ) : Type 0 where
  pub as_long : length ws ≡ length was
  pub room : Room left count (length was)
  pub onward : hex_words (fields bs) ≡ after (take count ws) (hex_words (fields_left left))

-- none was gathered yet
pub gathered_none : (bs : Bor (List ℕ)) (ws : List ℕ) → length bs.now < 17 * length ws → Gathered bs.now ws ws (Some bs) 0
unfolding fields_left
gathered_none bs ws h = record { as_long = refl; room = omega arith; onward = sym (after_none (hex_words (fields bs.now))) }

-- none is left
pub gathered_all : {bs was ws : List ℕ} {count : ℕ} → Gathered bs was ws None count → WordsRead (hex_words (fields bs)) (Some count) ws
unfolding fields_left hex_words
gathered_all {ws = ws} {count = count} g = (omega (arith, g.as_long, g.room), g.onward ∙ ap {B = Option (List ℕ)} Some (append-nil (take count ws)))

-- a field is next
module _ {bs was ws : List ℕ} {rest : Bor (List ℕ)} {count : ℕ} (g : Gathered bs was ws (Some rest) count) where
  -- there is room for its word
  pub gather_room : count < length ws
  gather_room = omega (arith, g.as_long, g.room)

  -- it is no word
  pub gather_not : {field : List ℕ} (more : Option (Bor (List ℕ))) → fields rest.now ≡ field ∷ fields_left more → None ≡ hex_word field
      → WordsRead (hex_words (fields bs)) None ws
  unfolding fields_left hex_words
  gather_not more cut e = g.onward ∙ rw (cut, ← e)

  -- it is one, and another one follows, or none
  room_behind : (field : List ℕ) (more : Option (Bor (List ℕ))) → length field ≡ 16
      → IfSome more (λ m. length field + 1 + length m.now ≡ length rest.now) → Room more (count + 1) (length was)
  room_behind field None l h = omega (arith, g.room)
  room_behind field (Some m) l h = omega (arith, g.room)

  pub gather_one : {field : List ℕ} (more : Option (Bor (List ℕ))) {w : ℕ} → fields rest.now ≡ field ∷ fields_left more
      → IfSome more (λ m. length field + 1 + length m.now ≡ length rest.now) → Some w ≡ hex_word field
      → Gathered bs was (set ws count w) more (count + 1)
  unfolding fields_left hex_words
  gather_one {field = field} more {w = w} cut long word =
      let stored : take (count + 1) (set ws count w) ≡ take count ws ++ (w ∷ []) = rw (add-one count) (take-suc-set ws count w gather_room) in
      record {
        as_long = length-set ws count w ∙ g.as_long;
        room = room_behind field more (hex_long field w (sym word)) long;
        onward = g.onward ∙ rw (cut, ← word, stored) (after_one (take count ws) w (hex_words (fields_left more)));
      }
