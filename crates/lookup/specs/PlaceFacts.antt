-- What `place_of` is to the layout: its inverse. The proof is proofs/PlaceFacts.antt.
use Rattle.std.specs.Prelude.{ℕ, ◌≢◌, ◌≡◌}
use Rattle.std.proofs.Math.Option.{none, some}
use Rattle.rules.specs.Layout.{code_point}
use Rattle.rules.specs.declared.Key.{Key}
use Rattle.rules.specs.declared.Face.{Face}
use Rattle.lookup.specs.Places.{Place, place_of}

pub record PlaceFacts : Type 0 where
  -- what is found agrees with the layout, and is a character
  pub agrees : (c : ℕ) (p : Place) → place_of c ≡ some p → code_point p.key p.face ≡ c
  pub no_empty_face : (p : Place) → place_of 0 ≢ some p
  -- each character of the layout is found, where it stands
  pub is_found : (k : Key) (f : Face) → code_point k f ≢ 0 → place_of (code_point k f) ≡ some (record { key = k; face = f })
  -- nothing else is
  pub nothing_else : (c : ℕ) → ((k : Key) (f : Face) → code_point k f ≢ c) → place_of c ≡ none
