-- lines closed by CR LF
use Rattle.std.specs.Prelude.{ℕ, suc, ◌+◌, cond, ◌&&◌, List, [], ◌∷◌, take, drop, Some, None, Ok, Err, Option, Result, ◌==◌, nat_lt, slice_index}
use Rattle.std.specs.Option.{option_map}
use Rattle.refusal.specs.Answers.{refuse}
use Rattle.image.specs.declared.fault.ImageFault.{ImageFault}
use Rattle.image.specs.declared.fault.ImageFault.TheVariants.{Line}

-- a line without its CR LF, and what follows that
pub record Cut : Type 0 where
  pub line : List ℕ
  pub rest : List ℕ

-- the place of the first CR LF; a CR or an LF alone is a character of the line
abbrev pub close : List ℕ → Option ℕ
close [] = None
close (c ∷ t) = cond (c == 13 && slice_index t 0 == 10) (Some 0) (option_map suc (close t))

-- the line before a CR LF at this place, of at most 267 characters
abbrev pub cut_at : List ℕ → Option ℕ → Result Cut ImageFault
cut_at t None = Err Line
cut_at t (Some n) = refuse (nat_lt 267 n) Line (Ok (record { line = take n t; rest = drop (n + 2) t }))

-- the first line of a text
abbrev pub first_line : List ℕ → Result Cut ImageFault
first_line t = cut_at t (close t)
