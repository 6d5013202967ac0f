-- Document 01, "Records for the program": what the program prints, as bytes. Assumes nothing.
use Rattle.std.specs.Prelude.{cond, List, [], ◌∷◌, ◌++◌, ℕ, zero, suc, ◌+◌, ◌/◌, ◌%◌, ltb, take}
use Rattle.std.specs.Prelude.{Result, Ok, Err}
use Rattle.checks.specs.Domain.{Where, nowhere, at_container, at_item, Paper, refused_as, refusal_of}
use Rattle.capture_text.specs.declared.Fault.{Fault}
use Rattle.capture_text.specs.declared.Fault.TheVariants.{Refused, Broken}

-- a number in decimal, in at most so many places
unfoldable pub decimal_to : ℕ → ℕ → List ℕ
decimal_to zero n = []
decimal_to (suc k) n = cond (ltb n 10) ((48 + n) ∷ []) (decimal_to k (n / 10) ++ ((48 + n % 10) ∷ []))

abbrev pub decimal : ℕ → List ℕ
decimal n = decimal_to 20 n

-- each number after a space
abbrev pub spaced : List ℕ → List ℕ
spaced [] = []
spaced (n ∷ l) = (32 ∷ decimal n) ++ spaced l

-- "answer ", " place ", "container", "lines ", "counts"
abbrev pub answer_word : List ℕ
answer_word = 97 ∷ 110 ∷ 115 ∷ 119 ∷ 101 ∷ 114 ∷ 32 ∷ []

abbrev pub place_word : List ℕ
place_word = 32 ∷ 112 ∷ 108 ∷ 97 ∷ 99 ∷ 101 ∷ 32 ∷ []

abbrev pub container-word : List ℕ
container-word = 99 ∷ 111 ∷ 110 ∷ 116 ∷ 97 ∷ 105 ∷ 110 ∷ 101 ∷ 114 ∷ []

abbrev pub lines_word : List ℕ
lines_word = 108 ∷ 105 ∷ 110 ∷ 101 ∷ 115 ∷ 32 ∷ []

abbrev pub counts_word : List ℕ
counts_word = 99 ∷ 111 ∷ 117 ∷ 110 ∷ 116 ∷ 115 ∷ []

-- "A refusal prints only `answer 4 place 1`; the container prints as `container`."
abbrev pub place_text : Where → List ℕ
place_text nowhere = []
place_text at_container = container-word
place_text (at_item i) = decimal i

abbrev pub head_text : ℕ → List ℕ
head_text number = answer_word ++ ((48 + number) ∷ place_word)

abbrev pub refusal_text : Paper → List ℕ
refusal_text p = head_text p.number ++ (place_text p.place ++ (10 ∷ []))

-- the three lines of an accepted capture: "With no items the last line is `counts` alone."
abbrev pub title_text : Paper → List ℕ
title_text p = (answer_word ++ ((48 + p.number) ∷ 10 ∷ lines_word)) ++ (decimal p.lines ++ (10 ∷ counts_word))

abbrev pub lines_text : Paper → List ℕ → List ℕ
lines_text p counts = title_text p ++ (spaced (take p.lines counts) ++ (10 ∷ []))

-- the answer to a capture: how many lines it has, or why it has none
abbrev pub Reply : Type 0
Reply = Result ℕ Fault

-- the paper's values: the place of answer 7 is a byte offset
abbrev pub accepted : ℕ → Paper
accepted lines = record { number = 0; place = nowhere; lines = lines; rounds = 0 }

abbrev pub fault_paper : Fault → Paper
fault_paper (Refused why) = refusal_of why
fault_paper (Broken offset) = refused_as 7 (at_item offset)

abbrev pub reply_paper : Reply → Paper
reply_paper (Ok lines) = accepted lines
reply_paper (Err fault) = fault_paper fault

abbrev pub text_of : Reply → List ℕ → List ℕ
text_of (Ok lines) counts = lines_text (reply_paper (Ok lines)) counts
text_of (Err fault) counts = refusal_text (reply_paper (Err fault))
