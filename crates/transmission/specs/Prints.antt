-- what is printed of trials
use Rattle.std.specs.Prelude.{ℕ, List, ◌++◌, codes, decimal}
use Rattle.transmission.specs.declared.traffic.Traffic.{Traffic}
use Rattle.transmission.specs.declared.trials.Trials.{Trials}

abbrev pub traffic_text : Traffic → List ℕ
traffic_text t = decimal t.put ++ (codes " put, " ++ (decimal t.taken ++ (codes " taken, " ++ (decimal t.lost ++ codes " lost"))))

abbrev pub trials_text : Trials → List ℕ
trials_text t =
    codes "slot lane: " ++ (traffic_text t.slots ++ (codes "\nevery 10th put dropped: " ++ (traffic_text t.losing
    ++ (codes "\nand every 7th before that: " ++ traffic_text t.layered))))
