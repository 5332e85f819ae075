-- The form in which a list of pairs is lent: a pair is one number of 32 bits, the four bytes that 9/12 of document 02 gives it in a
-- log, the first on top: key, key, character (2 bytes).
use Rattle.std.specs.Prelude.{ℕ, ◌/◌, ◌%◌, List, [], ◌∷◌}
use Rattle.std.specs.Prelude as code
use Rattle.std.proofs.Math.Option.{Option, none, some}
use Rattle.rules.specs.Pairs.{Pair, Lent}
use Rattle.pairs.specs.declared.Times.{Times}
use Rattle.pairs.specs.declared.Lent as given

-- bits 24 to 31, bits 16 to 23, bits 0 to 15
abbrev pub pair_in : ℕ → Pair
pair_in w = record { first = record { 0 = w / 16_777_216 % 256 }; second = record { 0 = w / 65_536 % 256 }; character = w % 65_536 }

abbrev pub pairs_in : List ℕ → List Pair
pairs_in [] = []
pairs_in (w ∷ l) = pair_in w ∷ pairs_in l

abbrev pub lent : List ℕ → Times → Lent
lent l t = record { pairs = pairs_in l; t_s = t.ts; n = t.n }

-- the same of a list that lies in memory, with its times
abbrev pub lent_by : given.Lent → Lent
lent_by g = lent g.list.now g.times

-- a list alone, for what T_s and N have no part in
abbrev pub of_list : List ℕ → Lent
of_list l = record { pairs = pairs_in l; t_s = 0; n = 0 }

-- what the answer of a lookup says
abbrev pub paired : code.Option ℕ → Option ℕ
paired code.None = none
paired (code.Some c) = some c
