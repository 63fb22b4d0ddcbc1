-- how far a transmission has come
use Rattle.std.proofs.Common.{◌≡◌, ℕ, ◌+◌, ◌≤◌, Bool, true, false, cond, List, [], ◌∷◌, ◌++◌, length, is_ok, Option, sym, refl, ap, ◌∙◌, arith, append_assoc, append-nil}
use Rattle.std.proofs.lemmas.List.{length-append}
use Rattle.std.specs.List.{AllByRecursion}
use Rattle.std.specs.Option.{option_to_list}
use Rattle.ihex.specs.Content.{Content, line, Sound}
use Rattle.hdlc.specs.Messages.{information, frame}
use Rattle.hdlc.specs.Numbers.{number_of, next_number}
use Rattle.hdlc.specs.declared.number.SequenceNumber.{SequenceNumber}
use Rattle.image.specs.Files.{closed, file, first_record}
use Rattle.lane.proofs.Runs.{Worn_then}
use Rattle.lane.proofs.Worns.{Worn_same, Worn_along}
use Rattle.lane.specs.Worn.{Worn}
use Rattle.lane.specs.declared.interface.Lane.{Ghosts as Lane}
use Rattle.transmission.specs.Sending.{numbered, received, Sends, none, one, SentOne, Transmitted}
use Rattle.transmission.specs.Tallies.{counted, no_traffic, tally_from}
use Rattle.transmission.specs.declared.traffic.Traffic.{Traffic}

-- one count more, and not the other
pub one_of : (b : Bool) → cond b 1 0 + cond b 0 1 ≡ 1
one_of true = refl
one_of false = refl

module _ {S : Type 0} (lane : Lane S) where
  -- a transmission whose records are numbered from n on, and of which t is counted already
  pub record From (n : ℕ) (t : Traffic) (s : S) (text : List ℕ) (u : Traffic) (s' : S) : Type 0 where
    pub records : List Content
    pub rest : List ℕ
    pub sound : AllByRecursion Sound records
    pub begins : text ≡ file records ++ rest
    pub ends : is_ok (first_record rest) ≡ false
    pub outcomes : List (Option (List ℕ))
    pub sends : Sends lane s (numbered n records) outcomes s'
    pub worn : Worn (lane.waiting s ++ numbered n records) (received outcomes ++ lane.waiting s')
    pub tallied : u ≡ tally_from t outcomes

  -- with what is still to come it is one of the whole text, and no count passes the text's length
  pub record SoFar (s : S) (text : List ℕ) (t : Traffic) (n : SequenceNumber) (rest : List ℕ) (s' : S) : Type 0 where
    pub whole : (u : Traffic) (s'' : S) → From (number_of n) t s' rest u s'' → From 0 no_traffic s text u s''
    pub put : t.put + length rest ≤ length text
    pub each : t.taken + t.lost ≡ t.put

  -- one record more
  more : (m s' s'' : S) (rest rest' xs : List ℕ) (t u : Traffic) (n : ℕ) (r : Content) (came : Bool) → Sound r → rest ≡ closed r ++ rest' → xs ≡ line r
      → SentOne lane m (frame (information n xs)) came s' → From (next_number n) (counted t came) s' rest' u s'' → From n t m rest u s''
  more m s' s'' rest rest' xs t u n r came sound begins is_line sent a =
      let b = rw is_line at sent in
      record {
        records = r ∷ a.records;
        rest = a.rest;
        sound = (sound, a.sound);
        begins = begins ∙ ap (λ ys. closed r ++ ys) a.begins ∙ sym (append_assoc (closed r) (file a.records) a.rest);
        ends = a.ends;
        outcomes = b.outcome ∷ a.outcomes;
        sends = one b.passes a.sends;
        worn = Worn_then (lane.waiting m) (lane.waiting s') (lane.waiting s'') (frame (information n (line r)) ∷ []) (numbered (next_number n) a.records) (option_to_list b.outcome) (received a.outcomes) b.worn a.worn;
        tallied = a.tallied ∙ ap (λ c. tally_from (counted t c) a.outcomes) b.tells;
      }

  pub far_on : (s m s' : S) (text rest rest' xs : List ℕ) (t t' : Traffic) (n n' : SequenceNumber) (r : Content) (came : Bool)
      → SoFar s text t n rest m → Sound r → rest ≡ closed r ++ rest' → xs ≡ line r → t' ≡ counted t came → number_of n' ≡ next_number (number_of n)
      → SentOne lane m (frame (information (number_of n) xs)) came s' → SoFar s text t' n' rest' s'
  far_on s m s' text rest rest' xs t t' n n' r came a sound begins is_line counts next sent = record {
    whole = λ u s'' b. a.whole u s'' (more m s' s'' rest rest' xs t u (number_of n) r came sound begins is_line sent (rw (counts, next) at b));
    put = omega (arith, ap (λ v. v.put) counts, a.put, ap length begins, length-append (closed r) rest');
    each = omega (arith, ap (λ v. v.put) counts, ap (λ v. v.taken) counts, ap (λ v. v.lost) counts, a.each, one_of came);
  }

  pub far_ends : {s s' : S} {text rest : List ℕ} {t : Traffic} {n : SequenceNumber} → SoFar s text t n rest s' → is_ok (first_record rest) ≡ false → Transmitted lane s text t s'
  far_ends {s'} {rest} {t} a e =
      let b = a.whole t s' (record {
        records = [];
        rest = rest;
        sound = tt;
        begins = refl;
        ends = e;
        outcomes = [];
        sends = none;
        worn = Worn_along (sym (append-nil (lane.waiting s'))) refl (Worn_same (lane.waiting s'));
        tallied = refl;
      }) in
      record {
        records = b.records;
        rest = b.rest;
        sound = b.sound;
        begins = b.begins;
        ends = b.ends;
        sent = record { outcomes = b.outcomes; sends = b.sends; worn = b.worn; tallied = b.tallied };
      }
