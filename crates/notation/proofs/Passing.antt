-- How a transcriber comes through a part of a text: what it has read and what the log holds before that part and behind it. The digits of
-- a number make the number.
use Prim.Native.Nat.{ℕ, zero, suc, ◌+◌, ◌*◌, ◌/◌, ◌%◌, ◌^◌, ◌≤◌, ◌<◌}
use native.Mathlib.Nat.{pow-suc}
use native.Mathlib.Omega.{arith}
use borrow.Author.Tests.{lt-ltb, ltb-true, ltb-false, le-leb, lt-leb}
use mathlib.Core.Bool.{Bool, true, false}
use mathlib.Core.List.{List, [], ◌∷◌, ◌++◌, append_assoc}
use mathlib.Core.Path.{◌≡◌, refl, ◌∙◌}
use lib.Dec.{ltb}
use Rattle.io.specs.Digits.{hex_digit_ascii, last_digits}
use Rattle.choice.proofs.Choices.{by_test}
use Rattle.decimals.specs.Decimals.{is_digit}
use Rattle.status_line.specs.Decimal.{places, decimal}
use Rattle.notation.specs.declared.Field.{Field}
use Rattle.notation.specs.declared.Field.TheVariants.{Second, Character}
use Rattle.notation.specs.declared.Progress.{Progress}
use Rattle.notation.specs.declared.Output.{Output}
use Rattle.std.specs.Prelude.{Some}
use Rattle.notation.specs.Transcribing.{packed, base, most, push, tag_of, is_comment, takes_letters, digit_value, following, reading, behind}
use Rattle.notation.specs.Transcribing.{at_digit, entry_step, step, Log, with_output, from}
use Rattle.notation.specs.Notation.{letter, code_point}

pub record Passes (p : Progress) (l : Log) (text : List ℕ) (q : Progress) (m : Log) : Type 0 where
  pub goes_on : (rest : List ℕ) → from p l (text ++ rest) ≡ from q m rest

-- one part, then another
infixl 5 ◌and_on◌
pub ◌and_on◌ : {p : Progress} {l : Log} {a : List ℕ} {q : Progress} {m : Log} {b : List ℕ} {r : Progress} {n : Log}
    → Passes p l a q m → Passes q m b r n → Passes p l (a ++ b) r n
◌and_on◌ {a = a} {b = b} f g =
    record { goes_on = λ rest. rw (append_assoc a b rest) (f.goes_on (b ++ rest) ∙ g.goes_on rest) }

pub stays : {p : Progress} {l : Log} → Passes p l [] p l
stays = record { goes_on = λ rest. refl }

-- the digits of a decimal number, whether letters are taken or not
value_is : (letters : Bool) (d : ℕ) → d < 10 → digit_value letters (hex_digit_ascii d) ≡ d
unfolding digit_value is_digit
value_is letters d h =
    rw (lt-ltb d 10 h, le-leb 48 (48 + d) (omega arith), le-leb (48 + d) 57 (omega arith)) (omega arith)

-- a line end and a space are no digits
pub no_digit_10 : (letters : Bool) → digit_value letters 10 ≡ 16
unfolding digit_value is_digit
no_digit_10 true = refl
no_digit_10 false = refl

pub no_digit_32 : (letters : Bool) → digit_value letters 32 ≡ 16
unfolding digit_value is_digit
no_digit_32 true = refl
no_digit_32 false = refl

-- a digit that is taken for one
digit_step : (p : Progress) → is_comment p ≡ false → (b d : ℕ) → digit_value (takes_letters p) b ≡ d → d < 16 → step p b ≡ at_digit p d
unfolding step entry_step
digit_step p out b d is small = rw (out, is, lt-ltb d 16 small)

-- behind digits, one more
next_digit : (f : Field) (n b d : ℕ) (l : Log) → digit_value (takes_letters (reading f n)) b ≡ d → d < 16 → n * base f + d ≤ most f
    → Passes (reading f n) l (b ∷ []) (reading f (n * base f + d)) l
unfolding from at_digit
next_digit f n b d l is small fits =
    record { goes_on = λ rest. rw (digit_step (reading f n) refl b d is small, le-leb (n * base f + d) (most f) fits) }

-- A number that signs announce. What is known of the record by then goes into the log.
module _ (g : Field) (n s : ℕ) (l : Log) (f : Field) (known : Output) where
  module _ (announced : following g n s ≡ Some (f, known)) (no_end : tag_of known ≡ 0) where
    first_digit : (b d : ℕ) → digit_value (takes_letters (behind g n s)) b ≡ d → d < 16
        → Passes (behind g n s) l (b ∷ []) (reading f d) (with_output l known)
    unfolding from at_digit
    first_digit b d is small = record { goes_on = λ rest. rw (digit_step (behind g n s) refl b d is small, announced, no_end) }

    decimal_first : (x : ℕ) → x < 10 → Passes (behind g n s) l (hex_digit_ascii x ∷ []) (reading f x) (with_output l known)
    decimal_first x h = first_digit (hex_digit_ascii x) x (value_is (takes_letters (behind g n s)) x h) (omega arith)

    module _ (tens : base f ≡ 10) where
      digits_pass : (more x : ℕ) → x < 10 ^ suc more → x ≤ most f
          → Passes (behind g n s) l (last_digits 10 (places more x) x) (reading f x) (with_output l known)
      digits_pass zero x h fits =
          let e : x % 10 ≡ x = omega arith in
          rw e (decimal_first x (omega arith))
      digits_pass (suc more) x h fits =
          by_test (λ (k : ℕ). Passes (behind g n s) l (last_digits 10 k x) (reading f x) (with_output l known)) (ltb x 10)
          (λ few. let e : x % 10 ≡ x = omega (arith, ltb-true x 10 few) in rw e (decimal_first x (ltb-true x 10 few)))
          (λ _. let high : x / 10 < 10 ^ suc more = omega (arith, pow-suc 10 (suc more)) in
          let back : x / 10 * base f + x % 10 ≡ x = rw tens (omega arith) in
          let small : x % 10 < 10 = omega arith in
          digits_pass more (x / 10) high (omega arith)
          and_on (rw back at (next_digit f (x / 10) (hex_digit_ascii (x % 10)) (x % 10) (with_output l known)
          (value_is (takes_letters (reading f (x / 10))) (x % 10) small) (omega arith) (rw back fits))))

      pub number_passes : (x : ℕ) → x ≤ most f → x < 100_000_000_000_000_000_000
          → Passes (behind g n s) l (decimal x) (reading f x) (with_output l known)
      unfolding decimal
      number_passes x fits h = digits_pass 19 x h fits

-- the digits of a code point
letter_is : (d : ℕ) → d < 16 → digit_value true (letter d) ≡ d
unfolding digit_value is_digit
letter_is d h =
    by_test (λ (b : ℕ). digit_value true b ≡ d) (ltb d 10)
    (λ t. let k : d < 10 = ltb-true d 10 t in
    rw (le-leb 48 (48 + d) (omega arith), le-leb (48 + d) 57 (omega arith)) (omega arith))
    (λ f. let k : 10 ≤ d = ltb-false d 10 f in
    rw (
      le-leb 48 (55 + d) (omega arith),
      lt-leb (55 + d) 57 (omega arith),
      le-leb 65 (55 + d) (omega arith),
      le-leb (55 + d) 70 (omega arith),
    ) (omega arith))

module _ (n : ℕ) (l : Log) where
  pub code_point_passes : (x : ℕ) → x ≤ 65_535
      → Passes (behind Second n (packed "=U+")) l (code_point x) (reading Character x) (with_output l (push 1 n))
  unfolding code_point following takes_letters
  code_point_passes x h =
      let m = with_output l (push 1 n) in
      let d1 = x / 16 / 16 / 16 % 16 in
      let d2 = x / 16 / 16 % 16 in
      let d3 = x / 16 % 16 in
      let d4 = x % 16 in
      let n2 = d1 * 16 + d2 in
      let n3 = n2 * 16 + d3 in
      let back : n3 * 16 + d4 ≡ x = omega arith in
      first_digit Second n (packed "=U+") l Character (push 1 n) refl refl (letter d1) d1 (letter_is d1 (omega arith)) (omega arith)
      and_on next_digit Character d1 (letter d2) d2 m (letter_is d2 (omega arith)) (omega arith) (omega arith)
      and_on next_digit Character n2 (letter d3) d3 m (letter_is d3 (omega arith)) (omega arith) (omega arith)
      and_on (rw back at (next_digit Character n3 (letter d4) d4 m (letter_is d4 (omega arith)) (omega arith) (omega arith)))
