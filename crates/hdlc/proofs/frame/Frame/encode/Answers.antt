use Rattle.std.proofs.Common.{◌≡◌, ℕ, List, ◌++◌, length, take, drop, ap, ◌∙◌, rules}
use Rattle.std.proofs.lemmas.List.{take_at}
use Rattle.hdlc.proofs.frame.Frame.encode.Goals as goal

front : (n : ℕ) (xs f out : List ℕ) → xs ≡ f ++ drop (length f) out → length f ≡ n → take n xs ≡ f
front n xs f out e h = ap (take n) e ∙ take_at f (drop (length f) out) n h

pub returns-clause-front : goal.returns-clause-front
returns-clause-front c = front _ _ _ c.args.out.now (search rules) (search rules)
