-- What the answers of this crate say.
use Rattle.rules.specs.OneEvent.{Done, ◌leaving◌}
use Rattle.rules.specs.Items.{listed}
use Rattle.effects.specs.declared.Effect.{Effect}

abbrev pub done : Effect → Done
done e = listed e.items leaving e.resting
