-- What the format allows of inits, echoes and commits: a head in range makes a formed message, and a formed message has such a head.
-- For what a call sends, and for what it hears.
use Rattle.std.proofs.Common.{◌≡◌, ℕ, ◌^◌, ◌<◌, ◌≤◌, true, List, [], length, Some, Option, sym, refl, subst, arith}
use Rattle.boards.specs.Boards.{only, size}
use Rattle.boards.proofs.Sets.{size_le}
use Rattle.grammar.specs.Grammar.{Grammar, Item, from_to}
use Rattle.grammar.proofs.Held.{Held, held, stand}
use Rattle.layout.proofs.Seals.{lone_below}
use Rattle.layout.proofs.Stored.{tag_fits, stored_long, stored_fits}
use Rattle.schemes.specs.declared.Scheme.{Ghosts}
use Rattle.row.specs.declared.state.Sent.{Sent}
use Rattle.row.specs.Calls.{Signs}
use Rattle.sending.specs.Sends.{Able, Speakable, Speaks}
use Rattle.sending.proofs.Lones.{lone_allowed, only_byte, within}
use Rattle.sending.proofs.Certificates.{Certified}
use Rattle.views.specs.Shares.{quorum}
use Rattle.views.proofs.Rule.{quorum_rest, share_is}
use Rattle.wire.specs.declared.message.Sort.{Sort}
use Rattle.wire.specs.declared.message.Sort.TheVariants.{Report, End}
use Rattle.wire.specs.Fields.{carried, lone_tag, longest, own_tag, shortest, tagged}
use Rattle.wire.specs.Format.{Formed, content_values, message, set_values}
use Rattle.wire.specs.Messages.{Msg, sort_number, stored_tags, tag_bytes}
use Rattle.wire.specs.Acts.{Act, Allowed}
use Rattle.wire.proofs.Speakers.{lone_below as speaker_below}
use Rattle.wire.proofs.Spelt.{between}
use Rattle.wire.proofs.Widths.{length_form}
use Rattle.delivery.specs.Reports.{Content, content}
use Rattle.delivery.specs.Ranges.{AllowedHead, Long}

sort_fits : (k : Sort) → (sort_number k < 2 ^ 3) × (from_to 0 1 (sort_number k) ≡ true)
sort_fits Report = (omega arith, refl)
sort_fits End = (omega arith, refl)

pub most : (k : Sort) (n : ℕ) → Long k n → n ≤ 48
most Report n h = h
most End n h = omega (arith, h)

length_fits : (k : Sort) (n : ℕ) → Long k n → (n < 2 ^ 6) × (from_to (shortest (sort_number k)) (longest (sort_number k)) n ≡ true)
length_fits Report n h = (omega arith, within 0 48 n (omega arith) h)
length_fits End n h = (omega (arith, h), within 1 1 n (omega (arith, h)) (omega (arith, h)))

long_of : (k : Sort) (n : ℕ) → from_to (shortest (sort_number k)) (longest (sort_number k)) n ≡ true → Long k n
long_of Report n h = (between 0 48 n h).1
long_of End n h = let p = between 1 1 n h in omega (arith, p.0, p.1)

-- The fields behind kind and view, whatever follows them.
carried_held : (k : ℕ → Grammar) (is : List Item) (v s n : ℕ) (c : Content) → AllowedHead v s n c → Held (k s) is Grammar.done → Held (carried k) (content_values s n c.sort c.payload is) Grammar.done
carried_held k is v s n c r rest =
    let z = sort_fits c.sort in
    let l = length_fits c.sort (length c.payload) r.content.long in
    (refl, r.sender, within 0 7 s (omega arith) (omega (arith, r.sender)), (refl, omega (arith, r.number), within 1 255 n r.number.0 r.number.1, (refl, z.0, z.1, (refl, l.0, l.1, (refl, r.content.bytes, rest)))))

in_view : (v s n : ℕ) (c : Content) → AllowedHead v s n c → (v < 2 ^ 8) × (from_to 1 64 v ≡ true)
in_view v s n c r = (omega (arith, r.view), within 1 64 v r.view.0 r.view.1)

pub formed_init : (v s n : ℕ) (c : Content) (t : ℕ) → AllowedHead v s n c → Formed (Msg.init v s n c.sort c.payload (tag_bytes t))
formed_init v s n c t r =
    let x = in_view v s n c r in
    stand message _ Grammar.done
    (refl, omega arith, refl, (refl, x.0, x.1, carried_held own_tag (set_values (only s) (tag_bytes t)) v s n c r (refl, only_byte s, within (only s) (only s) (only s) (omega arith) (omega arith), (refl, tag_fits t, refl))))

pub formed_echo : (v s n : ℕ) (c : Content) (b t : ℕ) → AllowedHead v s n c → b < 8 → Formed (Msg.echo v s n c.sort c.payload b (tag_bytes t))
formed_echo v s n c b t r low =
    let x = in_view v s n c r in
    stand message _ Grammar.done
    (refl, omega arith, refl, (refl, x.0, x.1, carried_held (λ _. lone_tag Grammar.done) (set_values (only b) (tag_bytes t)) v s n c r (refl, only_byte b, lone_below b low, (refl, tag_fits t, refl))))

-- A commit made of a quorum's stored tags goes out.
few : (n : ℕ) → n ≤ 8 → quorum n ≤ 6
few n h = omega (arith, quorum_rest n, share_is n)

pub certified_commit : (v s n : ℕ) (c : Content) (a w : ℕ) (ts : List ℕ) → AllowedHead v s n c → a < 256 → size a ≡ quorum (size w) → Certified (Msg.commit v s n c.sort c.payload a (stored_tags a ts))
certified_commit v s n c a w ts r byte full =
    let x = in_view v s n c r in
    record {
      formed = stand message _ Grammar.done
          (refl, omega arith, refl, (refl, x.0, x.1, carried_held (λ _. tagged Grammar.done) (set_values a (stored_tags a ts)) v s n c r (refl, byte, within 0 255 a (omega arith) (omega arith), (stored_long a ts, stored_fits a ts, refl))));
      short = omega (arith, length_form (Msg.commit v s n c.sort c.payload a (stored_tags a ts)), stored_long a ts, full, few (size w) (size_le w), most c.sort (length c.payload) r.content.long);
    }

-- What the head of a formed message carries.
carried_in : (v s n : ℕ) (k : Sort) (p : List ℕ) (g : ℕ → Grammar) (is : List Item) → from_to 1 64 v ≡ true → Held (carried g) (content_values s n k p is) Grammar.done → AllowedHead v s n (content k p)
carried_in v s n k p g is low h = record {
  view = between 1 64 v low;
  sender = h.1;
  number = between 1 255 n h.3.2;
  content = record { long = long_of k (length p) h.3.3.3.2; bytes = h.3.3.3.3.1 };
}

pub init_in : (v s n : ℕ) (k : Sort) (p t : List ℕ) → Formed (Msg.init v s n k p t) → AllowedHead v s n (content k p)
init_in v s n k p t f = let h = (held f).3 in carried_in v s n k p own_tag (set_values (only s) t) h.2 h.3

pub echo_in : (v s n : ℕ) (k : Sort) (p : List ℕ) (b : ℕ) (t : List ℕ) → Formed (Msg.echo v s n k p b t) → AllowedHead v s n (content k p)
echo_in v s n k p b t f = let h = (held f).3 in carried_in v s n k p (λ _. lone_tag Grammar.done) (set_values (only b) t) h.2 h.3

pub commit_in : (v s n : ℕ) (k : Sort) (p : List ℕ) (a : ℕ) (t : List ℕ) → Formed (Msg.commit v s n k p a t) → AllowedHead v s n (content k p)
commit_in v s n k p a t f = let h = (held f).3 in carried_in v s n k p (λ _. tagged Grammar.done) (set_values a t) h.2 h.3

-- The speaker of an echo, and its tag.
pub echo_speaker : (v s n : ℕ) (k : Sort) (p : List ℕ) (b : ℕ) (t : List ℕ) → Formed (Msg.echo v s n k p b t) → (b < 8) × (length t ≡ 8)
echo_speaker v s n k p b t f = let h = (held f).3.3.3.3.3.3.2 in (speaker_below b h.2, h.3.0)

-- What is stated is an act that the format allows.
pub allowed_init : (v s n : ℕ) (c : Content) → AllowedHead v s n c → Allowed (Act.init v s n c.sort c.payload)
allowed_init v s n c r = lone_allowed (Act.init v s n c.sort c.payload) s 0 [] 0 (formed_init v s n c 0 r)

pub allowed_echo : (v s n : ℕ) (c : Content) → AllowedHead v s n c → Allowed (Act.echo v s n c.sort c.payload)
allowed_echo v s n c r = lone_allowed (Act.echo v s n c.sort c.payload) 0 0 [] 0 (formed_echo v s n c 0 0 r (omega arith))

-- The same head by other names.
pub in_range_as : (v v2 s s2 n n2 : ℕ) (c : Content) → v ≡ v2 → s ≡ s2 → n ≡ n2 → AllowedHead v2 s2 n2 c → AllowedHead v s n c
in_range_as v v2 s s2 n n2 c ev es en r = subst (λ x. AllowedHead x s n c) (sym ev) (subst (λ x. AllowedHead v2 x n c) (sym es) (subst (λ x. AllowedHead v2 s2 x c) (sym en) r))

pub init_as : (v v2 s s2 n n2 : ℕ) (k : Sort) (p : List ℕ) (c : Content) → v ≡ v2 → s ≡ s2 → n ≡ n2 → content k p ≡ c → Act.init v s n k p ≡ Act.init v2 s2 n2 c.sort c.payload
init_as v v2 s s2 n n2 k p c ev es en ec = λ i. Act.init (ev i) (es i) (en i) (ec i).sort (ec i).payload

pub certified_as : (v s n : ℕ) (k : Sort) (p : List ℕ) (c : Content) (a w : ℕ) (t ts : List ℕ) → content k p ≡ c → t ≡ stored_tags a ts → AllowedHead v s n c → a < 256 → size a ≡ quorum (size w)
    → Certified (Msg.commit v s n k p a t)
certified_as v s n k p c a w t ts ec et r byte full =
    subst (λ x. Certified (Msg.commit v s n k p a x)) (sym et) (certified_commit v s n (content k p) a w ts (subst (AllowedHead v s n) (sym ec) r) byte full)

-- What a board that is able can say: an init of its own, an echo.
module _ {S : Type 0} (g : Ghosts S) where
  pub can_init : (v s n : ℕ) (c : Content) (z : S) (out : List ℕ) → AllowedHead v s n c → Able g z out → Speakable g s (Act.init v s n c.sort c.payload) 0 [] z out
  can_init v s n c z out r able = record { seated = r.sender; formed = λ t. formed_init v s n c t r; able = able }

  pub can_own : (b v s n : ℕ) (k : Sort) (p : List ℕ) (c : Content) (z : S) (out : List ℕ) → b ≡ s → content k p ≡ c → AllowedHead v s n c → Able g z out → Speakable g b (Act.init v s n k p) 0 [] z out
  can_own b v s n k p c z out eb ec r able =
      subst (λ x. Speakable g x (Act.init v s n k p) 0 [] z out) (sym eb) (can_init v s n (content k p) z out (subst (AllowedHead v s n) (sym ec) r) able)

  -- What was said went out and was signed, by other names of the board, the addressees and the act.
  pub signs_as : (b b2 to to2 : ℕ) (a a2 : Act) (out : List ℕ) (z : S) (r : Option Sent) (x : Sent) (z2 : S) (out2 : List ℕ) → r ≡ Some x → b ≡ b2 → to ≡ to2 → a ≡ a2
      → Speaks g b to a 0 [] out z r z2 out2 → Signs g b2 to2 a2 0 [] out z x z2 out2
  signs_as b b2 to to2 a a2 out z r x z2 out2 er eb et ea h =
      subst (λ y. Signs g y to2 a2 0 [] out z x z2 out2) eb (subst (λ y. Signs g b y a2 0 [] out z x z2 out2) et (subst (λ y. Signs g b to y 0 [] out z x z2 out2) ea
      (subst (λ y. Speaks g b to a 0 [] out z y z2 out2) er h)))

  pub can_echo : (v s n : ℕ) (c : Content) (b : ℕ) (z : S) (out : List ℕ) → AllowedHead v s n c → b < 8 → Able g z out → Speakable g b (Act.echo v s n c.sort c.payload) 0 [] z out
  can_echo v s n c b z out r low able = record { seated = low; formed = λ t. formed_echo v s n c b t r low; able = able }
