use Rattle.std.proofs.Common.{◌≡◌, ◌<◌, [], length, get_or, set, sym, ◌∙◌, ap₂, zero-add, arith}
use Rattle.std.proofs.lemmas.List.Edits.{paste_more}
use Rattle.std.proofs.lemmas.Grind.{common_steps}
use Rattle.ihex.specs.Digits.{bytes_of}
use Rattle.ihex.proofs.Spelling.{IsPair, pair_at, length-bytes}
use Rattle.ihex.proofs.Totals.{total_more}
use Rattle.ihex.proofs.reader.Digits.decode.Goals as goal
use Rattle.ihex.proofs.reader.Digits.decode.Goals.{In-loop-i}

-- the pair of this iteration
pair : (c : In-loop-i) → IsPair (get_or c.as_chunks.result.0.now c.loop-i.i []) (get_or (bytes_of c.args.self.now.text.now) c.loop-i.i 0)
pair c = pair_at _ _ _ c.as_chunks.ensures.front (omega arith) c.args.self.now.upper

pub byte_of-b-requires-clause-high : goal.byte_of-b-requires-clause-high
byte_of-b-requires-clause-high c = (pair (goal.at.byte_of-b-requires-clause-high c).In-loop-i).high

pub byte_of-b-requires-clause-low : goal.byte_of-b-requires-clause-low
byte_of-b-requires-clause-low c = (pair (goal.at.byte_of-b-requires-clause-low c).In-loop-i).low

pub loop-i-preserved : goal.loop-i-preserved
loop-i-preserved c =
    let bs = bytes_of c.args.self.now.text.now in
    let i = c.loop-i.i in
    let b : c.byte_of-b.result ≡ get_or bs i 0 = c.byte_of-b.ensures ∙ sym (pair (goal.at.loop-i-preserved c).In-loop-i).byte in
    let l : i < length bs = omega (arith, length-bytes c.args.self.now.text.now) in
    record {
      sum = omega (arith, total_more 0 i bs l);
      out = ap₂ (λ o x. set o i x) c.loop-i.invariant.out b ∙ simp zero-add at (paste_more c.args.out.now 0 bs i 0 (omega arith) l);
    }

pub returns-clause-sum : goal.returns-clause-sum
returns-clause-sum c = grind (arith, common_steps, length-bytes)

pub returns-clause-out : goal.returns-clause-out
returns-clause-out c = grind (arith, common_steps, length-bytes)
