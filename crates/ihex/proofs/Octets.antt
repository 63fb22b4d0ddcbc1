-- lists of numbers of 8 bits
use Rattle.std.proofs.Common.{◌≡◌, ℕ, ◌<◌, Bool, true, ltb, List, length, get_or, ◌∙◌, ap, arith, ⊎_elim}
use Rattle.std.proofs.lemmas.Bool.{cases_lt, lt-ltb, ltb-true}
use Rattle.std.proofs.lemmas.List.{get_or_default, get_or_past}
use Rattle.std.proofs.lemmas.List.Sums.{AllPass-from_list_all, list_all-from_AllPass}
use Rattle.ihex.specs.Digits.{octets}

abbrev pub octet : ℕ → Bool
octet b = ltb b 256

pub octets_from : (bs : List ℕ) → ((i : ℕ) → get_or bs i 0 < 256) → octets bs ≡ true
octets_from bs h =
    list_all-from_AllPass octet bs (λ k d l. ap octet (get_or_default bs k d 0 l) ∙ lt-ltb _ 256 (h k))

pub octets_at : (bs : List ℕ) (i : ℕ) → octets bs ≡ true → get_or bs i 0 < 256
octets_at bs i h =
    ⊎_elim (λ l. ltb-true _ 256 (AllPass-from_list_all octet bs h i 0 l)) (λ l. omega (arith, get_or_past bs i 0 l)) (cases_lt i (length bs))
