use Rattle.std.proofs.Common.{◌≡◌, ◌<◌, ◌+◌, ◌*◌, ◌%◌, ◌++◌, length, ap, ◌∙◌, ap₂, arith}
use Rattle.std.proofs.lemmas.List.{take-append-drop}
use Rattle.std.proofs.lemmas.Bool.Decides.{nat_tests}
use Rattle.ihex.specs.Content.{line, complement, fields, sum_byte}
use Rattle.ihex.specs.Digits.{total}
use Rattle.ihex.specs.Meaning.{content}
use Rattle.ihex.proofs.Inverse.{reads_back, sound}
use Rattle.ihex.proofs.Totals.{total-append}
use Rattle.ihex.proofs.WriteSteps.{line_length, line_written}
use Rattle.ihex.proofs.record.Record.write.Goals as goal

pub returns-then-out-length : goal.returns-then-out-length
returns-then-out-length c =
    let r = content c.args.self.now in
    let short : length c.args.out.now < length (line r) = omega (arith, line_length r, ap length c.data-data.ensures) in
    record { answer = grind (arith, nat_tests); buffer = grind (arith, nat_tests); reads_back = reads_back r (sound c.args.self.now) }

pub returns : goal.returns
returns c =
    let r = content c.args.self.now in
    let D = c.data-data.result.now in
    let H = c.header.result in
    let n : 11 + 2 * length D ≡ length (line r) = omega (arith, line_length r, ap length c.data-data.ensures) in
    let all : H ++ D ≡ fields r = ap₂ (λ x y. x ++ y) c.header.ensures c.data-data.ensures ∙ take-append-drop 4 (fields r) in
    let sum : c.write_bytes-sum.result ≡ total (fields r) % 256 =
    omega (arith, c.write_bytes-head.ensures.sum, c.write_bytes-sum.ensures.sum, total-append H D, ap total all) in
    let s : c.sum_byte.result ≡ sum_byte (fields r) = c.sum_byte.ensures ∙ ap complement sum ∙ omega arith in
    let w = line_written r c.args.out.now _ _ _ H D _ (omega arith) (omega arith) all s
    c.write_bytes-head.ensures.out c.write_bytes-sum.ensures.out c.write_bytes.ensures.out in
    record { answer = grind (arith, nat_tests); buffer = grind (arith, nat_tests); reads_back = reads_back r (sound c.args.self.now) }
