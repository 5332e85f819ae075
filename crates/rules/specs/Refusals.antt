-- Document 01, "Numbers given back": a number is given exactly when its row holds and no earlier check fired. The order on an
-- event is 12, 2, 3, 4, 5, 11. The proof is proofs/Refusals.antt.
use Rattle.std.specs.Prelude.{◌<◌, false, [], ◌↔◌, ◌≢◌, ◌≡◌}
use Rattle.std.proofs.Math.Option.{none}
use Rattle.rules.specs.Numbers.{largest_stamp, most_held}
use Rattle.rules.specs.Held.{is_held, how_many}
use Rattle.rules.specs.Pairs.{Lent, lent_good}
use Rattle.rules.specs.States.{well_formed}
use Rattle.rules.specs.GivenBack.{Answer, input, step}
use Rattle.rules.specs.declared.Machine.{Machine}
use Rattle.rules.specs.declared.Event.{Event}

-- The rows of the table. 12: the list of pairs, T_s or N is not good (9/12)
abbrev pub NotGood : Lent → Type 0
NotGood g = lent_good g ≡ false

-- 2: state not well formed
abbrev pub NotWellFormed : Lent → Machine → Type 0
NotWellFormed g m = well_formed g m ≡ false

-- 3: kind or key not allowed
abbrev pub NotAllowed : Event → Type 0
NotAllowed e = input e.kind e.key ≡ none

-- 4: stamp above the largest
abbrev pub AboveLargest : Event → Type 0
AboveLargest e = largest_stamp < e.stamp.0

-- 5: stamp before the last accepted
abbrev pub BeforeLast : Machine → Event → Type 0
BeforeLast m e = e.stamp.0 < m.last.0

-- 11: a press of a new key while 6 are held (7/12)
abbrev pub TooMany : Machine → Event → Type 0
TooMany m e = (e.kind ≡ 1) × (is_held m.held e.key ≡ false) × (how_many m.held ≡ most_held)

-- state handed back as given, nothing committed, nothing sent
pub record LeftAsGiven (m : Machine) (r : Answer) : Type 0 where
  pub no_items : r.items ≡ []
  pub no_sendings : r.sendings ≡ []
  pub machine_as_given : r.machine ≡ m

-- What holds of everything lent, every machine and event.
pub record Refusals (g : Lent) (m : Machine) (e : Event) : Type 0 where
  pub gives_12 : (step g m e).number ≡ 12 ↔ NotGood g
  pub gives_2 : (step g m e).number ≡ 2 ↔ ((¬ NotGood g) × NotWellFormed g m)
  pub gives_3 : (step g m e).number ≡ 3 ↔ ((¬ NotGood g) × (¬ NotWellFormed g m) × NotAllowed e)
  pub gives_4 : (step g m e).number ≡ 4 ↔ ((¬ NotGood g) × (¬ NotWellFormed g m) × (¬ NotAllowed e) × AboveLargest e)
  pub gives_5 : (step g m e).number ≡ 5
      ↔ ((¬ NotGood g) × (¬ NotWellFormed g m) × (¬ NotAllowed e) × (¬ AboveLargest e) × BeforeLast m e)
  pub gives_11 : (step g m e).number ≡ 11
      ↔ ((¬ NotGood g) × (¬ NotWellFormed g m) × (¬ NotAllowed e) × (¬ AboveLargest e) × (¬ BeforeLast m e) × TooMany m e)
  pub gives_0 : (step g m e).number ≡ 0
      ↔ ((¬ NotGood g) × (¬ NotWellFormed g m) × (¬ NotAllowed e) × (¬ AboveLargest e) × (¬ BeforeLast m e) × (¬ TooMany m e))
  pub refused : (step g m e).number ≢ 0 → LeftAsGiven m (step g m e)
