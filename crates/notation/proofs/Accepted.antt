-- The records that the reader accepts, up to the first that it refuses: settings, a list, or an event whose kind and key are allowed. Their
-- bytes, joined, are what stands before the offset that it answers.
use Prim.Native.Nat.{ℕ, ◌+◌}
use native.Mathlib.Omega.{arith}
use borrow.Author.Tests.{eqb-true}
use mathlib.Core.Bool.{Bool, true}
use mathlib.Core.List.{List, [], ◌∷◌, ◌++◌, append_assoc, foldl}
use mathlib.Core.Option.{Option, none, some}
use mathlib.Core.Path.{◌≡◌, refl, sym, ap, ◌∙◌}
use lib.Dec.{eqb, leb}
use lib.ListN.{length, take, length-append}
use lib.Seq.{take_at}
use Rattle.choice.specs.Choice.{if◌then◌orelse◌}
use Rattle.rules.specs.Pairs.{Lent, lent_good, no_pairs}
use Rattle.rules.specs.States.{well_formed, opening}
use Rattle.rules.specs.GivenBack.{input, Verdict, judge_input, judge, answer}
use Rattle.rules.specs.GivenBack.{step_with}
use Rattle.rules.specs.declared.Machine.{Machine}
use Rattle.rules.specs.declared.Event.{Event}
use Rattle.rules.specs.declared.Input.{Input}
use Rattle.choice.proofs.Choices.{both_ways, by_test}
use Rattle.keylog.specs.Records.{is_settings, settings, is_event, event, is_list, list}
use Rattle.keylog.specs.LogRecords.{cut_up, records_of, tail_of}
use Rattle.keylog.specs.Walk.{Place}
use Rattle.keylog.specs.Reader.{Desk, closed, opened, running, RecordEffect, refused, accepted}
use Rattle.keylog.specs.Reader.{by_opening, by_event, record_effect}
use Rattle.keylog.specs.Reader.{Reading, fresh, refuse, accept, unless_refused, read_record, is_cut, read}
use Rattle.keylog.proofs.Walking.{over}
use Rattle.keylog.proofs.Reading.{read_records}
use Rattle.mending.specs.Laws.{joined}
use Rattle.mending.proofs.LogParts.{Wholes, joined_append, records_whole, all_bytes, cut_up_joined}

pub data Shape (r : List ℕ) : Type 0 where
  of_settings : is_settings r ≡ true → Shape r
  of_list : is_list r ≡ true → Shape r
  of_event : is_event r ≡ true → (i : Input) → input (event r).kind (event r).key ≡ some i → Shape r

abbrev pub Shapes : List (List ℕ) → Type 0
Shapes [] = Unit {0}
Shapes (r ∷ rs) = Shape r × Shapes rs

-- an event that is accepted is allowed
record Allowed (e : Event) : Type 0 where
  meant : Input
  is_meant : input e.kind e.key ≡ some meant

allowed : (g : Lent) (m : Machine) (e : Event) → (step_with g m e).number ≡ 0 → Allowed e
unfolding step_with judge
allowed g m e z =
    by_test (λ (v : Verdict). (answer g m e.stamp v).number ≡ 0 → Allowed e) (well_formed g m)
    (λ _. by_input (input e.kind e.key) refl) (λ _ two. absurd (omega arith)) z
  where
    by_input : (o : Option Input) → input e.kind e.key ≡ o → (answer g m e.stamp (judge_input m e o)).number ≡ 0 → Allowed e
    by_input none is three = absurd (omega arith)
    by_input (some i) is _ = record { meant = i; is_meant = is }

-- what is accepted has one of the shapes
abbrev Shaped : List ℕ → RecordEffect → Type 0
Shaped r (refused n) = Unit {0}
Shaped r (accepted d ws) = Shape r

module _ (r : List ℕ) where
  event_shaped : (g : Lent) (m : Machine) → Shaped r (by_event g m r)
  event_shaped g m =
      by_test (Shaped r) (is_event r)
      (λ is. by_test (Shaped r) (eqb (step_with g m (event r)).number 0)
      (λ z. let a = allowed g m (event r) (eqb-true (step_with g m (event r)).number 0 z) in of_event is a.meant a.is_meant)
      (λ _. tt))
      (λ _. tt)

  opening_shaped : is_settings r ≡ true → (n : ℕ) (o : Option Machine) → Shaped r (by_opening n o)
  opening_shaped is n none = tt
  opening_shaped is n (some m) = of_settings is

  effect_shaped : (d : Desk) → Shaped r (record_effect d r)
  unfolding record_effect
  effect_shaped closed =
      by_test (Shaped r) (is_settings r) (λ is. opening_shaped is (opening (settings r)).number (opening (settings r)).machine) (λ _. tt)
  effect_shaped (opened m) =
      by_test (Shaped r) (is_list r) (λ is. both_ways (Shaped r) (lent_good (list r)) (of_list is) tt) (λ _. event_shaped no_pairs m)
  effect_shaped (running g m) = event_shaped g m

module _ (room : ℕ) where
  refused_stays : (x : Reading) (n : ℕ) (rs : List (List ℕ)) → foldl (read_record room) (refuse x n) rs ≡ refuse x n
  unfolding read_record
  refused_stays x n [] = refl
  refused_stays x n (r ∷ rs) = refused_stays x n rs

  -- records are those accepted, and then others
  record Split (x : Reading) (rs : List (List ℕ)) : Type 0 where
    good : List (List ℕ)
    others : List (List ℕ)
    all : rs ≡ good ++ others
    shapes : Shapes good
    offset_is : (foldl (read_record room) x rs).offset ≡ x.offset + length (joined good)

  none_good : (x : Reading) (n : ℕ) (r : List ℕ) (rs : List (List ℕ))
      → (foldl (read_record room) (refuse x n) rs).offset ≡ x.offset + length (joined [])
  none_good x n r rs = rw (refused_stays x n rs) (omega arith)

  module _ (r : List ℕ) (rs : List (List ℕ)) (x : Reading) (e : x.refusal ≡ none) where
    stopped : (n : ℕ) → read_record room x r ≡ refuse x n → Split x (r ∷ rs)
    stopped n is =
        record {
          good = [];
          others = r ∷ rs;
          all = refl;
          shapes = tt;
          offset_is = ap (λ (y : Reading). (foldl (read_record room) y rs).offset) is ∙ none_good x n r rs;
        }

    went_on : (d : Desk) (ws : List ℕ) → Shape r → Split (accept x r d ws) rs → read_record room x r ≡ accept x r d ws → Split x (r ∷ rs)
    went_on d ws s more is =
        record {
          good = r ∷ more.good;
          others = more.others;
          all = ap (λ (l : List (List ℕ)). r ∷ l) more.all;
          shapes = (s, more.shapes);
          offset_is = ap (λ (y : Reading). (foldl (read_record room) y rs).offset) is ∙ more.offset_is
              ∙ omega (arith, length-append r (joined more.good));
        }

    by_its_effect : ((y : Reading) → y.refusal ≡ none → Split y rs) → (f : RecordEffect) → record_effect x.desk r ≡ f → Split x (r ∷ rs)
    unfolding read_record
    by_its_effect more (refused n) is = stopped n (rw (e, is))
    by_its_effect more (accepted d ws) is =
        let s : Shape r = rw is at (effect_shaped r x.desk) in
        by_test (λ (y : Reading). read_record room x r ≡ y → Split x (r ∷ rs)) (leb (length x.words + length ws) room)
        (λ _. went_on d ws s (more (accept x r d ws) refl)) (λ _. stopped 8) (rw (e, is))

  split : (rs : List (List ℕ)) (x : Reading) → x.refusal ≡ none → Split x rs
  split [] x e = record { good = []; others = []; all = refl; shapes = tt; offset_is = omega arith }
  split (r ∷ rs) x e = by_its_effect r rs x e (λ y f. split rs y f) (record_effect x.desk r) refl

  -- the end of a log leaves the offset as it was
  offset_at_end : (w : Place Reading) (o : Option ℕ) (t : Bool)
      → (unless_refused w.state o (if t then refuse w.state 6 orelse w.state)).offset ≡ w.state.offset
  offset_at_end w (some n) t = refl
  offset_at_end w none t = both_ways (λ (y : Reading). y.offset ≡ w.state.offset) t refl refl

-- the records of what stands before the refused one
pub record Front (front : List ℕ) : Type 0 where
  pub records_are : Shapes (records_of front)
  pub wholes : Wholes (records_of front)
  pub joined_are : joined (records_of front) ≡ front

wholes_front : (good others : List (List ℕ)) → Wholes (good ++ others) → Wholes good
wholes_front [] others w = tt
wholes_front (r ∷ good) others w = (w.0, wholes_front good others w.1)

module _ (room : ℕ) (log : List ℕ) where
  abbrev end : Place Reading
  end = over (read_record room) fresh (cut_up log)

  pub front_records : Front (take (read room log).offset log)
  front_records =
      let s = split room (records_of log) fresh refl in
      let good = s.good in
      let offset : (read room log).offset ≡ length (joined good) =
      ap (λ (y : Reading). y.offset) (read_records room log)
      ∙ offset_at_end room end end.state.refusal (is_cut end.state.desk end.pending) ∙ s.offset_is ∙ omega arith in
      let bytes : joined good ++ (joined s.others ++ tail_of log) ≡ log =
      sym (append_assoc (joined good) (joined s.others) (tail_of log))
      ∙ ap (λ (l : List ℕ). l ++ tail_of log) (sym (joined_append good s.others) ∙ ap joined (sym s.all))
      ∙ all_bytes log in
      let front : take (read room log).offset log ≡ joined good =
      ap (λ (l : List ℕ). take (read room log).offset l) (sym bytes) ∙ take_at (joined good) _ (read room log).offset (sym offset) in
      let wholes : Wholes good = wholes_front good s.others (rw s.all at (records_whole log)) in
      let records : records_of (joined good) ≡ good = ap (λ (w : Place (List (List ℕ))). w.state) (cut_up_joined good wholes) in
      rw front (record { records_are = rw records s.shapes; wholes = rw records wholes; joined_are = ap joined records })
