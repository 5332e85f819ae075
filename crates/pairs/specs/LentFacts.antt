-- The form of Lent.antt can lend every pair that is accepted. The proof is proofs/Words.antt.
use Rattle.std.specs.Prelude.{ℕ, ◌+◌, ◌*◌, ◌<◌, true, ◌≡◌}
use Rattle.rules.specs.Pairs.{Pair, pair_good}
use Rattle.pairs.specs.Lent.{pair_in}

-- the number that a pair is lent as
abbrev pub word : Pair → ℕ
word p = p.first.0 * 16_777_216 + p.second.0 * 65_536 + p.character

pub record CanBeLent (p : Pair) : Type 0 where
  pub fits : pair_good p ≡ true → word p < 4_294_967_296
  pub read_back : pair_good p ≡ true → pair_in (word p) ≡ p
