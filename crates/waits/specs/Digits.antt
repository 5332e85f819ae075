-- The base to which a product that might not fit is taken apart.
use Rattle.std.specs.Prelude.{ℕ}

abbrev pub digit : ℕ
digit = 4_294_967_296
