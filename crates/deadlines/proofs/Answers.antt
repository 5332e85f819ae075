-- What an early return on `!f(..)` tells of the definition that f answers.
use Rattle.std.proofs.Common.{◌≡◌, sym, ◌∙◌, Bool, true, false}

-- the early return was taken
pub failed : {r t : Bool} → r ≡ t → r ≡ false → t ≡ false
failed e h = sym e ∙ h

-- the code went on
pub passed : {r t : Bool} → r ≡ t → r ≡ true → t ≡ true
passed e h = sym e ∙ h
