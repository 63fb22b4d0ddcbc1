use Rattle.transmission.proofs.Prompt.{trial}
use Rattle.transmission.proofs.Shares.{lost}
use Rattle.transmission.proofs.trials.over.Goals as goal

pub returns : goal.returns
returns g c = record {
  sent = (c.transmit.new.lane, c.transmit.ensures);
  trial = λ h. trial g.met.L.Stack.prompt h c.transmit.ensures;
  lost = λ h new. lost new (trial g.met.L.Stack.prompt h c.transmit.ensures);
}
