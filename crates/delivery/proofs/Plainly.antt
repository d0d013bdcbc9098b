-- A part of the reports that is put in another is put in what they mean.
-- d are the reports before the call.
use Rattle.std.proofs.Common.{◌≡◌, ℕ, List, map, set, Option, option_map, Some, None, ap, ◌∙◌}
use Rattle.std.proofs.lemmas.List.{map-set}
use Rattle.delivery.specs.Reports as plainly
use Rattle.delivery.specs.Effects.{delivered}
use Rattle.delivery.specs.declared.content.Content.{Content}
use Rattle.delivery.specs.declared.reports.Reports.{Reports}
use Rattle.delivery.specs.Plain.{plain, plain_content, plain_own, plain_record}

abbrev echoes_of : List (Option Content) → List (Option plainly.Content)
echoes_of xs = map (λ c. option_map plain_content c) xs

put_echo : (xs : List (Option Content)) (s : ℕ) (o : Option Content) → echoes_of (set xs s o) ≡ set (echoes_of xs) s (option_map plain_content o)
put_echo xs s o = map-set (λ x. option_map plain_content x) xs s o

pub plain_with_echo : (d : Reports) (s : ℕ) (k : Content) (c : plainly.Content) → plain_content k ≡ c
    → ◌≡◌ {A = plainly.Reports}
    (record { view = d.view; counts = d.counts; echoed = echoes_of (set d.echoed s (Some k)); claims = d.claims; own = option_map plain_own d.own; out = option_map plain_record d.out })
    (plainly.with_echo (plain d) s (Some c))
plain_with_echo d s k c ec =
    ap (λ es. record { view = d.view; counts = d.counts; echoed = es; claims = d.claims; own = option_map plain_own d.own; out = option_map plain_record d.out })
    (put_echo d.echoed s (Some k) ∙ ap (λ x. set (echoes_of d.echoed) s (Some x)) ec)

pub plain_delivered : (d : Reports) (s n y : ℕ) (k : Content) (l : Option ℕ) (c : plainly.Content) → y ≡ plainly.now (plain d) → plain_content k ≡ c → l ≡ plainly.claim c
    → ◌≡◌ {A = plainly.Reports}
    (record {
      view = d.view;
      counts = set d.counts s n;
      echoed = echoes_of (set d.echoed s None);
      claims = set d.claims s l;
      own = option_map plain_own d.own;
      out = Some (record { view = y; sender = s; number = n; content = plain_content k });
    })
    (delivered (plain d) s n c)
plain_delivered d s n y k l c ey ec el =
    λ i. record {
      view = d.view;
      counts = set d.counts s n;
      echoed = put_echo d.echoed s None i;
      claims = set d.claims s (el i);
      own = option_map plain_own d.own;
      out = Some (record { view = ey i; sender = s; number = n; content = ec i });
    }
