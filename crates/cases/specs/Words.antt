-- the words of which answers are made
use Rattle.std.specs.Prelude.{ℕ, List, [], ◌∷◌, ◌++◌, Ok, Err, codes, decimal, Result}
use Rattle.refusal.specs.Number.{number_of}
use Rattle.refusal.specs.declared.Refusal.{Refusal}
use Rattle.ihex.specs.Digits.{digits}

-- bytes as their digits; '-' stands for none
abbrev pub word_of : List ℕ → List ℕ
word_of [] = codes "-"
word_of (b ∷ bs) = digits (b ∷ bs)

abbrev pub refused_word : Refusal → List ℕ
refused_word f = codes "refused " ++ decimal (number_of f)

-- something written to a buffer: the length or the refusal, and what the buffer then holds
abbrev pub write_words : Result ℕ Refusal → List ℕ → List ℕ
write_words (Ok n) out = codes "written " ++ (decimal n ++ (codes " " ++ word_of out))
write_words (Err f) out = refused_word f ++ (codes " " ++ word_of out)
