-- The one way in which a definition chooses: by a test.
use Rattle.std.specs.Prelude.{Bool, true, false}

infixr 5 if◌then◌orelse◌
abbrev pub if◌then◌orelse◌ : {A : Type 0} → Bool → A → A → A
if◌then◌orelse◌ true a b = a
if◌then◌orelse◌ false a b = b
