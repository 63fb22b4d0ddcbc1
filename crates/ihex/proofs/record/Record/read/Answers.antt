use Rattle.std.proofs.Common.{◌≡◌, ◌+◌, ◌-◌, length, take, sym, ap, ◌∙◌, arith}
use Rattle.std.proofs.lemmas.List.{take_at}
use Rattle.ihex.specs.Digits.{bytes_of}
use Rattle.ihex.proofs.Inverse.{canonical}
use Rattle.ihex.proofs.ReadSteps.{reading_summed}
use Rattle.ihex.proofs.Spelling.{length-bytes}
use Rattle.ihex.proofs.record.Record.read.Goals as goal

pub returns : goal.returns
returns c =
    let t = c.args.text.now in
    let ds = c.in_ok-digits.digits.text.now in
    let n = c.in_ok-count.count in
    let part : take (5 + n) c.decode.new.out ≡ bytes_of ds =
    ap (take (5 + n)) c.decode.ensures.out ∙ take_at (bytes_of ds) _ (5 + n) (omega (arith, length-bytes ds, c.in_ok-count.ensures.long)) in
    let counted : length (bytes_of ds) - 5 ≡ n = omega (arith, length-bytes ds, c.in_ok-count.ensures.long) in
    let answer = (rw (part, counted) at c.find_record.ensures)
    ∙ sym (reading_summed t ds n c.in_ok-digits.ensures (sym c.in_ok-count.ensures.answer) (sym c.decode.ensures.sum ∙ c.if-decode-ne-TOTAL.false)) in
    record { answer = answer; canonical = canonical t _ answer }
