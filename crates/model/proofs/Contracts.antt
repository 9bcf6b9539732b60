-- A contract that is one equation pins its result: two results that equal one value coincide.
use mathlib.Core.Path.{◌≡◌, sym, ◌∙◌}
use Rattle.model.specs.Contract.{Pinned, PinnedWhere}

module _ {K : Type 0} {A R W : K → Type 0} {Post : (κs : K) → A κs → R κs → W κs → Type 0} where
  pub one_value : {value : (κs : K) → A κs → R κs}
      → ((κs : K) (a : A κs) (r : R κs) (w : W κs) → Post κs a r w → r ≡ value κs a) → Pinned Post
  one_value is κs a r r' w w' p q = is κs a r w p ∙ sym (is κs a r' w' q)

  -- the value may hang on a witness that the requirement holds
  pub one_value_where : {Pre : (κs : K) → A κs → Type 0} {value : (κs : K) (a : A κs) → Pre κs a → R κs}
      → ((κs : K) (a : A κs) (r : R κs) (w : W κs) (t : Pre κs a) → Post κs a r w → r ≡ value κs a t) → PinnedWhere Pre Post
  one_value_where is κs a r r' w w' t p q = is κs a r w t p ∙ sym (is κs a r' w' t q)
