-- Events of no kind.
use Rattle.std.proofs.Common.{◌≡◌, false}
use Rattle.std.proofs.Math.Option.{Option}
use borrow.Author.Tests.{ne_eqb}
use Rattle.rules.specs.Refusal.{kind_number}
use Rattle.rules.specs.declared.Kind.{Kind}
use Rattle.rules.specs.declared.Kind.TheVariants as kinds
use Rattle.rules.specs.declared.Event.{Event}
use Rattle.opinions.specs.Earlier.{allowed}
use Rattle.opinions.specs.Opinion.{matters}

module _ (e : Event) (of_none : (k : Kind) → ¬ (e.kind ≡ kind_number k)) where
  pub not_allowed : allowed e ≡ false
  not_allowed = rw (
    ne_eqb _ 1 (of_none kinds.CharacterDown),
    ne_eqb _ 2 (of_none kinds.CharacterUp),
    ne_eqb _ 3 (of_none kinds.ThumbDown),
    ne_eqb _ 4 (of_none kinds.ThumbUp),
    ne_eqb _ 5 (of_none kinds.FunctionDown),
    ne_eqb _ 6 (of_none kinds.Tick),
  )

  pub matters_not : (M O : Option Event) → matters M O e ≡ false
  unfolding matters
  matters_not M O = rw (
    ne_eqb _ 1 (of_none kinds.CharacterDown),
    ne_eqb _ 2 (of_none kinds.CharacterUp),
    ne_eqb _ 3 (of_none kinds.ThumbDown),
    ne_eqb _ 4 (of_none kinds.ThumbUp),
    ne_eqb _ 5 (of_none kinds.FunctionDown),
  )
