-- the answers to the cases of records
use Rattle.std.specs.Prelude.{ℕ, List, ◌++◌, Ok, Err, codes, decimal, Result}
use Rattle.refusal.specs.declared.BufferTooShort.{BufferTooShort}
use Rattle.refusal.specs.declared.Refusal.{Refusal}
use Rattle.refusal.specs.declared.Refusal.TheVariants as reason
use Rattle.ihex.specs.Content.{Content, data_at, end_of_file}
use Rattle.ihex.specs.Meaning.{refusal_of}
use Rattle.ihex.specs.Writing.{written, written_to}
use Rattle.ihex.specs.declared.fault.RecordFault.{RecordFault}
use Rattle.cases.specs.Words.{word_of, refused_word}

abbrev pub record_words : Content → List ℕ
record_words (data_at offset ds) = codes "data " ++ (decimal offset ++ (codes " " ++ word_of ds))
record_words end_of_file = codes "end"

-- what reading a text answers
abbrev pub read_words : Result Content RecordFault → List ℕ
read_words (Ok r) = record_words r
read_words (Err f) = refused_word (refusal_of f)

-- a data record written to a buffer: the length or the refusal
abbrev pub length_written : Result ℕ BufferTooShort → Result ℕ Refusal
length_written (Ok n) = Ok n
length_written (Err f) = Err reason.BufferTooShort

abbrev pub data_written : Result Content RecordFault → List ℕ → Result ℕ Refusal
data_written (Ok r) out = length_written (written r out)
data_written (Err f) out = Err (refusal_of f)

-- and what the buffer then holds
abbrev pub buffer_written : Result Content RecordFault → List ℕ → List ℕ
buffer_written (Ok r) out = written_to r out
buffer_written (Err f) out = out
