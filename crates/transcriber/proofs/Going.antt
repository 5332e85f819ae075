-- Where a transcriber is in a text: the log so far, by its sizes, and what is left of the text.
use Prim.Native.Nat.{ℕ, suc, ◌+◌, ◌-◌, ◌*◌, ◌≤◌, ◌<◌}
use native.Mathlib.Numerals.{add-one}
use native.Mathlib.Omega.{arith}
use borrow.Author.Tests.{ltb-true, ltb-false}
use mathlib.Core.Bool.{true, false}
use mathlib.Core.List.{List, [], ◌∷◌, ◌++◌}
use mathlib.Core.Path.{◌≡◌, refl, sym, ap, ◌∙◌}
use lib.Dec.{eqb, ltb}
use lib.ListN.{length, drop, get_or, length-append, length-drop, get_or-append, get_or-eq_default}
use lib.Seq.{drop-cons, drop-length, get_or_at}
use Rattle.choice.proofs.Choices.{by_test, either}
use Rattle.writer.specs.Drills.{record_of}
use Rattle.std.specs.Prelude.{Ok, Err}
use Rattle.notation.specs.Transcribing as notation
use Rattle.notation.specs.Transcribing.{width_of, tag_of, Step, line_end, longest_body, start, empty, step, Log, body_with, overlong}
use Rattle.notation.specs.Transcribing.{Transcript, log, wrong, taken, from, transcribed}
use Rattle.notation.specs.declared.Progress.{Progress}
use Rattle.notation.specs.declared.Output.{Output}
use Rattle.notation.specs.declared.Expected.{Expected}
use Rattle.transcriber.specs.Sizes.{begin, with_output, Advanced, beside, by_step, advanced, Slow}
use Rattle.transcriber.specs.declared.state.State.{State}
use Rattle.transcriber.proofs.Sane.{idle, Sane, Keeps, step_keeps, Ends, line_ends}
use Rattle.transcriber.proofs.Room.{body_long, record_long}

-- the sizes of a log
pub record Counts (l : Log) (records body : ℕ) : Type 0 where
  pub records_are : records ≡ length l.records
  pub body_is : body ≡ length l.body

-- what one byte leads to, of a text that gives t, with some bytes behind it
pub record Kept (l : Log) (b : ℕ) (rest : List ℕ) (t : Transcript) (s : State) (o : Output) : Type 0 where
  pub counts : Counts (notation.with_output l o) s.records s.body
  pub left : t ≡ from s.progress (notation.with_output l o) rest
  pub sane : Sane s.progress (notation.with_output l o)
  pub ends : b ≡ line_end → idle s.progress ≡ true

abbrev pub Turned : Log → ℕ → List ℕ → Transcript → Advanced → Type 0
Turned l b rest t (Err e) = t ≡ wrong (length rest) e
Turned l b rest t (Ok (s, o)) = Kept l b rest t s o

module _ (l : Log) (records body : ℕ) (counts : Counts l records body) (b : ℕ) (rest : List ℕ) (t : Transcript) where
  output_turned : (p : Progress) (o : Output) → Sane p (notation.with_output l o) → (b ≡ line_end → idle p ≡ true)
      → t ≡ taken (Ok (p, o)) l (length rest) (λ q m. from q m rest)
      → Turned l b rest t (beside o (with_output (record { progress = p; records = records; body = body }) o))
  output_turned p o sane ends e =
      let long : body + (width_of o) ≡ length (body_with l o) = omega (arith, body_long l o, counts.body_is) in
      let in_time : eqb (tag_of o) 0 ≡ true → overlong l o ≡ false = λ z. rw z in
      let too_late : eqb (tag_of o) 0 ≡ false → ltb longest_body (body + (width_of o)) ≡ true → overlong l o ≡ true =
      λ w over. rw (w, ← long) over in
      let short-enough : eqb (tag_of o) 0 ≡ false → ltb longest_body (body + (width_of o)) ≡ false → overlong l o ≡ false =
      λ w fits. rw (w, ← long) fits in
      by_test (λ r. Turned l b rest t (beside o r)) (eqb (tag_of o) 0)
      (λ z. record {
        counts = rw z (record { records_are = counts.records_are; body_is = long });
        left = rw (in_time z) at e;
        sane = sane;
        ends = ends;
      })
      (λ w. by_test (λ r. Turned l b rest t (beside o r)) (ltb longest_body (body + (width_of o)))
      (λ over. rw (too_late w over) at e)
      (λ fits. record {
        counts = rw w (record {
          records_are = omega (
            arith,
            length-append l.records (record_of (tag_of o) (body_with l o)),
            record_long (tag_of o) (body_with l o),
            long,
            counts.records_are,
          );
          body_is = refl;
        });
        left = rw (short-enough w fits) at e;
        sane = sane;
        ends = ends;
      }))

  step_turned : (st : Step) → Keeps l st → (b ≡ line_end → Ends st) → t ≡ taken st l (length rest) (λ q m. from q m rest)
      → Turned l b rest t (by_step records body st)
  step_turned (Err e) k ends is = is
  step_turned (Ok (p, o)) k ends is = output_turned p o k ends is

-- the text with the line end that its end counts as
abbrev pub all_of : List ℕ → List ℕ
all_of text = text ++ (line_end ∷ [])

all_long : (text : List ℕ) → length (all_of text) ≡ length text + 1
all_long text = length-append text (line_end ∷ [])

byte_is : (text : List ℕ) (i : ℕ) → i ≤ length text → get_or (all_of text) i line_end ≡ get_or text i line_end
byte_is text i h =
    either (ltb i (length text))
    (λ t. get_or-append text (line_end ∷ []) line_end i (ltb-true i (length text) t))
    (λ f. let e : length text ≡ i = omega (arith, ltb-false i (length text) f) in
    get_or_at text line_end [] line_end i e ∙ sym (get_or-eq_default text line_end {n = i} (omega arith)))

-- where a transcriber is before the byte i of a text: its log so far is l
pub record At (text : List ℕ) (s : State) (i : ℕ) (l : Log) : Type 0 where
  pub counts : Counts l s.records s.body
  pub left : transcribed text ≡ from s.progress l (drop i (all_of text))
  pub sane : Sane s.progress l
  pub small : s.records + s.body ≤ 258 * i
  pub inside : i ≤ length text + 1
  pub past : length text < i → idle s.progress ≡ true

pub at_begin : (text : List ℕ) → At text begin 0 empty
unfolding transcribed
at_begin text =
    record {
      counts = record { records_are = refl; body_is = refl };
      left = refl;
      sane = record { no_body = λ _. refl };
      small = omega arith;
      inside = omega arith;
      past = λ h. absurd (omega arith);
    }

module _ (text : List ℕ) (s : State) (i : ℕ) (l : Log) (at : At text s i l) (more : i ≤ length text) (b : ℕ)
    (is : b ≡ get_or text i line_end) where
  abbrev rest : List ℕ
  rest = drop (suc i) (all_of text)

  rest_long : length rest ≡ length text - i
  rest_long = length-drop (suc i) (all_of text) ∙ omega (arith, all_long text)

  turned : Turned l b rest (transcribed text) (advanced s b)
  unfolding advanced from
  turned =
      let next : drop i (all_of text) ≡ b ∷ rest =
      drop-cons (all_of text) i line_end (omega (arith, all_long text))
      ∙ ap (λ (x : ℕ). x ∷ rest) (byte_is text i more ∙ sym is) in
      step_turned l s.records s.body at.counts b rest (transcribed text) (step s.progress b) (step_keeps l s.progress
      at.sane b)
      (λ e. rw e (line_ends s.progress))
      (rw next at at.left)

  -- the text is wrong here
  pub stops : (a : Advanced) (e : Expected) → a ≡ advanced s b → a ≡ Err e → transcribed text ≡ wrong (length text - i) e
  stops a e p q = rw (sym p ∙ q) at turned ∙ rw rest_long

  -- or it goes on
  pub goes_on : (a : Advanced) (next : State) (o : Output) → a ≡ advanced s b → a ≡ Ok (next, o) → Slow (s.records + s.body) next
      → At text next (i + 1) (notation.with_output l o)
  goes_on a next o p q slow =
      let k : Kept l b rest (transcribed text) next o = rw (sym p ∙ q) at turned in
      record {
        counts = k.counts;
        left = rw (add-one i) k.left;
        sane = k.sane;
        small = omega (arith, slow, at.small);
        inside = omega arith;
        past = λ h. k.ends (is ∙ get_or-eq_default text line_end {n = i} (omega arith));
      }

-- past the end the log is whole
pub ended : (text : List ℕ) (s : State) (i : ℕ) (l : Log) → At text s i l → length text < i → transcribed text ≡ log l.records
unfolding from
ended text s i l at h =
    let e : i ≡ length (all_of text) = omega (arith, at.inside, all_long text) in
    at.left ∙ rw (e, drop-length (all_of text))
