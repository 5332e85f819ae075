-- What a step commits, as a list: up to two items or words, in order.
use Rattle.std.specs.Prelude.{List, [], ◌∷◌}
use Rattle.rules.specs.declared.Few.{Few}
use Rattle.rules.specs.declared.Few.TheVariants.{None, One, Two}

abbrev pub listed : {A : Type 0} → Few A → List A
listed None = []
listed (One i) = i ∷ []
listed (Two i j) = i ∷ j ∷ []
