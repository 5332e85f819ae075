-- Logs on which the second opinion is computed: document 01's, and one for each place where an answer turns. The proof is
-- proofs/Examples.antt.
use Rattle.std.specs.Prelude.{ℕ, ◌/◌, ◌%◌, List, [], ◌∷◌, ◌++◌, map, ◌≡◌}
use Prim.Native.String.{String}
use Rattle.rules.specs.Layout.{code_points}
use Rattle.log_opinions.specs.OfLog.{Opined, refused, opined}

-- T=100, J=50, L=50, solo 0
abbrev pub opens : List ℕ
opens = 1 ∷ 0 ∷ 5 ∷ 0 ∷ 100 ∷ 50 ∷ 50 ∷ 0 ∷ []

-- an event: kind, key and a stamp below 65,536
abbrev pub at : ℕ → ℕ → ℕ → List ℕ
at kind key stamp = 2 ∷ 0 ∷ 10 ∷ kind ∷ key ∷ 0 ∷ 0 ∷ 0 ∷ 0 ∷ 0 ∷ 0 ∷ (stamp / 256) ∷ (stamp % 256) ∷ []

-- a list of no pairs, and one with the pair 21, 24 and its character ヴ: T_s below 256, N=50
abbrev pub no_pair : ℕ → List ℕ
no_pair t_s = 3 ∷ 0 ∷ 3 ∷ 0 ∷ t_s ∷ 50 ∷ []

abbrev pub one_pair : ℕ → List ℕ
one_pair t_s = 3 ∷ 0 ∷ 7 ∷ 0 ∷ t_s ∷ 50 ∷ 21 ∷ 24 ∷ 0x30 ∷ 0xF4 ∷ []

-- document 01's log, behind its settings; the stamp of 21 up is given
abbrev pub saigai : ℕ → List ℕ
saigai up-21 =
    at 1 24 0 ++ at 2 24 60 ++ at 1 18 100 ++ at 2 18 150 ++ at 1 21 200
    ++ at 3 1 230 ++ at 2 21 up-21 ++ at 4 1 280 ++ at 1 18 300 ++ at 6 0 400

-- A log: its name, the room for words, and what is answered.
pub record Tried : Type 0 where
  pub name : String
  pub room : ℕ
  pub log : List ℕ
  pub answer : Opined

abbrev pub tried : String → ℕ → List ℕ → Opined → Tried
tried n room log o = record { name = n; room = room; log = log; answer = o }

-- a number, a line, an offset, and what waits
abbrev pub answers : ℕ → String → ℕ → ℕ → Opined
answers n line at w = record { number = n; words = code_points line; offset = at; waiting = w }

abbrev pub tried_logs : List Tried
tried_logs =
    tried "01's log" 4 (opens ++ saigai 270) (answers 0 "さいがい" 138 0) ∷
    tried "01's log, 21 up@250" 4 (opens ++ saigai 250) (answers 0 "さいかい" 138 0) ∷
    tried "no room for the last word" 3 (opens ++ saigai 270) (refused 8 0) ∷
    tried "nothing" 0 [] (refused 6 0) ∷
    tried "settings out of range" 0 (1 ∷ 0 ∷ 5 ∷ 0 ∷ 49 ∷ 50 ∷ 50 ∷ 0 ∷ []) (refused 1 0) ∷
    tried "no settings" 9 (at 1 24 0) (refused 7 0) ∷
    tried "settings met again" 9 (opens ++ at 1 24 0 ++ opens) (answers 7 "" 21 1) ∷
    tried "an old stamp, with one letter out and one waiting" 9 (opens ++ at 1 24 0 ++ at 1 21 10 ++ at 6 0 9) (answers 5 "さ" 34 1) ∷
    tried "the same, no room" 0 (opens ++ at 1 24 0 ++ at 1 21 10 ++ at 6 0 9) (refused 8 0) ∷
    tried "a cut record" 9 (opens ++ at 1 24 0 ++ (2 ∷ [])) (answers 6 "" 21 1) ∷
    tried "a repeat" 9 (opens ++ at 1 24 0 ++ at 1 24 99 ++ at 1 24 100 ++ at 2 24 150 ++ at 1 24 160) (answers 0 "さ" 73 1) ∷
    tried "a seventh key" 9
    (opens ++ at 1 0 0 ++ at 1 1 1 ++ at 1 2 2 ++ at 1 3 3 ++ at 1 4 4 ++ at 1 5 5 ++ at 1 0 6 ++ at 1 6 7) (answers 11 "．ひすふへ" 99 1) ∷
    -- a list of no pairs is none; one with a pair is refused before all that follows, but after its own 12
    tried "no pair" 4 (opens ++ no_pair 50 ++ saigai 270) (answers 0 "さいがい" 144 0) ∷
    tried "no pair, T_s 1000 and N 99" 4 (opens ++ (3 ∷ 0 ∷ 3 ∷ 3 ∷ 232 ∷ 99 ∷ []) ++ saigai 270) (answers 0 "さいがい" 144 0) ∷
    tried "no pair, T_s out of range" 4 (opens ++ no_pair 49 ++ saigai 270) (refused 12 8) ∷
    tried "a pair" 4 (opens ++ one_pair 50 ++ saigai 270) (refused 14 8) ∷
    tried "a pair, T_s out of range" 4 (opens ++ one_pair 49 ++ saigai 270) (refused 12 8) ∷
    tried "a pair, no room" 0 (opens ++ one_pair 50 ++ saigai 270) (refused 14 8) ∷
    tried "a pair, and a bad record" 4 (opens ++ one_pair 50 ++ opens) (refused 14 8) ∷
    tried "a pair, and the end" 4 (opens ++ one_pair 50) (refused 14 8) ∷
    tried "a list that comes too late" 4 (opens ++ at 6 0 0 ++ one_pair 50) (refused 7 21) ∷ []

abbrev pub as_opined : Tried → Tried
as_opined x = tried x.name x.room x.log (opined x.room x.log)

-- the statement
abbrev pub TriedLogs : Type 0
TriedLogs = map as_opined tried_logs ≡ tried_logs
