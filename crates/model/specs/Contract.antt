-- When a contract determines what a call hands back. A contract is read here as a claim about the lifetimes, the
-- arguments, the result and what the call leaves behind references, as the check reads it off the source
-- (`Reads.Post`, and `Reads.Pre` for what it asks).
use Rattle.std.specs.Prelude.{◌≡◌}

-- two results that it allows for the same arguments are equal
abbrev pub Pinned : {K : Type 0} {A R W : K → Type 0} → ((κs : K) → A κs → R κs → W κs → Type 0) → Type 0
Pinned {K} {A} {R} {W} Post = (κs : K) (a : A κs) (r r' : R κs) (w w' : W κs) → Post κs a r w → Post κs a r' w' → r ≡ r'

-- the same where what it asks holds
abbrev pub PinnedWhere : {K : Type 0} {A R W : K → Type 0} → ((κs : K) → A κs → Type 0)
    → ((κs : K) → A κs → R κs → W κs → Type 0) → Type 0
PinnedWhere {K} {A} {R} {W} Pre Post =
    (κs : K) (a : A κs) (r r' : R κs) (w w' : W κs) → Pre κs a → Post κs a r w → Post κs a r' w' → r ≡ r'
