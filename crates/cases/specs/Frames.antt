-- the answers to the cases of frames
use Rattle.std.specs.Prelude.{ℕ, List, ◌++◌, Ok, Err, codes, decimal, Result}
use Rattle.std.specs.Result.{result_map_both}
use Rattle.refusal.specs.declared.Refusal.{Refusal}
use Rattle.refusal.specs.declared.Refusal.TheVariants as reason
use Rattle.refusal.specs.declared.UnsoundFrame.{UnsoundFrame}
use Rattle.hdlc.specs.Encoding.{encoded, refusal_of}
use Rattle.hdlc.specs.Messages.{Message, information, receive_ready}
use Rattle.cases.specs.Words.{word_of, refused_word}

abbrev pub message_words : Message → List ℕ
message_words (information n info) = codes "information " ++ (decimal n ++ (codes " " ++ word_of info))
message_words (receive_ready n) = codes "ready " ++ decimal n

-- what decoding a string answers
abbrev pub decode_words : Result Message UnsoundFrame → List ℕ
decode_words (Ok m) = message_words m
decode_words (Err f) = refused_word reason.UnsoundFrame

-- a frame written to a buffer: the length or the refusal
abbrev pub frame_written : Message → List ℕ → Result ℕ Refusal
frame_written m out = result_map_both (λ n. n) refusal_of (encoded m out)
