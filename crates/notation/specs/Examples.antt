-- Texts, each with what is transcribed of it. The proof is proofs/Examples.antt.
use Rattle.std.specs.Prelude.{ℕ, ◌/◌, ◌%◌, List, [], ◌∷◌, ◌++◌, map, ◌≡◌}
use Prim.Native.String.{String}
use Rattle.text.specs.Text.{ascii}
use Rattle.notation.specs.declared.Field.TheVariants.{Start, T, Key, Stamp, Ts, First, Second}
use Rattle.notation.specs.declared.Expected.TheVariants.{After, AtMost}
use Rattle.notation.specs.Transcribing.{Transcript, log, wrong, transcribed}

-- settings: T=100, J=L=50, solo 0
abbrev pub opens : List ℕ
opens = 1 ∷ 0 ∷ 5 ∷ 0 ∷ 100 ∷ 50 ∷ 50 ∷ 0 ∷ []

-- an event: kind, key and a stamp below 65,536
abbrev pub at : ℕ → ℕ → ℕ → List ℕ
at kind key stamp = 2 ∷ 0 ∷ 10 ∷ kind ∷ key ∷ 0 ∷ 0 ∷ 0 ∷ 0 ∷ 0 ∷ 0 ∷ (stamp / 256) ∷ (stamp % 256) ∷ []

pub record Example : Type 0 where
  pub written : String
  pub means : Transcript

infix 3 ◌means◌
abbrev pub ◌means◌ : String → Transcript → Example
written means result = record { written = written; means = result }

-- keystrokes, and texts that are none: how many bytes stand behind the one that is wrong, and what was expected
abbrev pub texts_taken : List Example
texts_taken =
    ("" means log [])
    ∷ ("# nothing, 21@0\n\n , ,\r\n" means log [])
    ∷ ("T=100 J=50 L=50 solo=0" means log opens)
    ∷ ("T=100 J=50 L=50 solo=0\n21@0, R@30, 21 up@59 # P3\ntick 99\n"
    means log (opens ++ at 1 21 0 ++ at 3 1 30 ++ at 2 21 59 ++ at 6 0 99))
    ∷ ("L@1,L up@2,R@3,R up@4,fn@70,0@5,255 up@65535"
    means log (at 3 0 1 ++ at 4 0 2 ++ at 3 1 3 ++ at 4 1 4 ++ at 5 0 70 ++ at 1 0 5 ++ at 2 255 65535))
    ∷ ("  tick\t007 ,\tT = 1 J = 2 L = 3 solo = 4" means log (at 6 0 7 ++ (1 ∷ 0 ∷ 5 ∷ 0 ∷ 1 ∷ 2 ∷ 3 ∷ 4 ∷ [])))
    ∷ ("tick 18446744073709551615"
    means log (2 ∷ 0 ∷ 10 ∷ 6 ∷ 0 ∷ 255 ∷ 255 ∷ 255 ∷ 255 ∷ 255 ∷ 255 ∷ 255 ∷ 255 ∷ []))
    ∷ ("T_s=100 N=50" means log (3 ∷ 0 ∷ 3 ∷ 0 ∷ 100 ∷ 50 ∷ []))
    ∷ ("T_s=100 N=50 21+24=U+30F4 0+1=U+20 # two pairs"
    means log (3 ∷ 0 ∷ 11 ∷ 0 ∷ 100 ∷ 50 ∷ 21 ∷ 24 ∷ 0x30 ∷ 0xF4 ∷ 0 ∷ 1 ∷ 0 ∷ 32 ∷ []))
    ∷ ("T_s=1 N=2 255+0=U+00fe" means log (3 ∷ 0 ∷ 7 ∷ 0 ∷ 1 ∷ 2 ∷ 255 ∷ 0 ∷ 0 ∷ 0xFE ∷ []))
    ∷ ("tick 18446744073709551616" means wrong 1 (AtMost 18_446_744_073_709_551_615))
    ∷ ("256@0" means wrong 3 (AtMost 255))
    ∷ ("T_s=1 N=1 0+1=U+10000" means wrong 1 (AtMost 65_535))
    ∷ ("T_s=1 N=1 0+1=F" means wrong 0 (After Second))
    ∷ ("T=100 K=50" means wrong 2 (After T))
    ∷ ("T=100" means wrong 0 (After T))
    ∷ ("21" means wrong 0 (After Key))
    ∷ ("21@" means wrong 0 (After Key))
    ∷ ("21 24@0" means wrong 4 (After Key))
    ∷ ("tick 9 9" means wrong 1 (After Stamp))
    ∷ ("tick" means wrong 0 (After Start))
    ∷ ("tock 5" means wrong 1 (After Start))
    ∷ ("solosolo=1" means wrong 1 (After Start))
    ∷ ("T_s=100\nN=50" means wrong 5 (After Ts))
    ∷ ("T_s=100 N=50 21+" means wrong 0 (After First))
    ∷ []

abbrev pub TextsTaken : Type 0
TextsTaken = map (λ e. transcribed (ascii e.written)) texts_taken ≡ map (λ e. e.means) texts_taken
