-- Lone messages: the tag makes no difference to whether one is formed, and none has more than 128 bytes.
-- The five kinds of this layer are formed at any view, rank, change and board that there is.
use Rattle.std.proofs.Common.{◌≡◌, ℕ, ◌^◌, ◌<◌, ◌≤◌, Bool, true, false, cond, eqb, List, [], ◌∷◌, length, Some, None, Option, IsSome, Result, Ok, Err, sym, refl, ap, ◌∙◌, subst, div-le_self, arith}
use Rattle.std.proofs.lemmas.Bool.{and_from, both_ways, eq-eqb, le-leb, lt-ltb}
use Rattle.std.specs.Result.{result_ok}
use Rattle.schemes.specs.declared.Scheme.{Ghosts}
use Rattle.schemes.specs.declared.SignRefusal.{SignRefusal}
use Rattle.schemes.specs.Meaning.{Signed, Refused, Signing}
use Rattle.schemes.proofs.Refusals.{refused_spent}
use Rattle.boards.specs.Boards.{member, only}
use Rattle.boards.proofs.Members.{member_only}
use Rattle.boards.proofs.Sets.{size_le, size_none}
use Rattle.grammar.specs.Grammar.{Grammar, from_to}
use Rattle.grammar.proofs.Held.{held, stand}
use Rattle.layout.proofs.Seals.{lone_below}
use Rattle.layout.proofs.Stored.{tag_fits, stored_long, stored_fits}
use Rattle.wire.specs.declared.message.Entry.{Entry}
use Rattle.wire.specs.Messages.{Msg, tag_bytes, stored_tags}
use Rattle.wire.specs.Format.{Formed, form, message}
use Rattle.wire.specs.Acts.{Act, Allowed, words}
use Rattle.wire.proofs.Signs.{EntryAllowed, signed_allowed, payload_le, words_long}
use Rattle.wire.proofs.Speakers.{lone_below as speaker_below}
use Rattle.wire.proofs.Widths.{length_form}
use Rattle.row.specs.Effects.{lone}
use Rattle.row.specs.declared.state.Sent.{Sent}
use Rattle.row.specs.declared.row.Row.{Row}
use Rattle.row.specs.States.{latest}
use Rattle.row.specs.Calls.{Posted}
use Rattle.sending.specs.Sends.{Able, GoesOut, SignsFor, Speakable, Speaks}

-- With another tag a formed lone message is formed.
pub retag : (a : Act) (b p : ℕ) (ak : List ℕ) (x y : ℕ) → Formed (lone a b p ak (tag_bytes x)) → Formed (lone a b p ak (tag_bytes y))
retag (Act.notify v c) b p ak x y f = let h = held f in stand message _ Grammar.done (search tag_fits)
retag (Act.ack v r c) b p ak x y f = let h = held f in stand message _ Grammar.done (search tag_fits)
retag (Act.ready v r c) b p ak x y f = let h = held f in stand message _ Grammar.done (search tag_fits)
retag (Act.deputy v r) b p ak x y f = let h = held f in stand message _ Grammar.done (search tag_fits)
retag (Act.last v r e) b p ak x y f = let h = held f in stand message _ Grammar.done (search tag_fits)
retag (Act.init v s n k w) b p ak x y f = let h = held f in stand message _ Grammar.done (search tag_fits)
retag (Act.echo v s n k w) b p ak x y f = let h = held f in stand message _ Grammar.done (search tag_fits)

-- No lone message has more than 128 bytes.
pub lone_short : (a : Act) (b p : ℕ) (ak : List ℕ) (x : ℕ) → Formed (lone a b p ak (tag_bytes x)) → length (form (lone a b p ak (tag_bytes x))) ≤ 128
lone_short (Act.notify v c) b p ak x f = omega (arith, length_form (Msg.notify v c b (tag_bytes x)))
lone_short (Act.ack v r c) b p ak x f = omega (arith, length_form (Msg.ack v r c b (tag_bytes x)))
lone_short (Act.ready v r c) b p ak x f = omega (arith, length_form (Msg.ready v r c b (tag_bytes x)))
lone_short (Act.deputy v r) b p ak x f = omega (arith, length_form (Msg.deputy v r b (tag_bytes x)))
lone_short (Act.last v r e) b p ak x f =
    omega (arith, length_form (Msg.last v r b (record { entry = e; tag = tag_bytes x }) p ak), (held f).3.3.3.3.3.3.3.2.3.0, size_le p)
lone_short (Act.init v s n k w) b p ak x f =
    omega (arith, length_form (Msg.init v s n k w (tag_bytes x)), payload_le k (length w) (held f).3.3.3.3.3.2)
lone_short (Act.echo v s n k w) b p ak x f =
    omega (arith, length_form (Msg.echo v s n k w b (tag_bytes x)), payload_le k (length w) (held f).3.3.3.3.3.2)

itself : (b : ℕ) → b < 8 → member (only b) b ≡ true
itself b h = member_only b b h ∙ eq-eqb b b refl

-- The act of a formed lone message is allowed.
pub lone_allowed : (a : Act) (b p : ℕ) (ak : List ℕ) (x : ℕ) → Formed (lone a b p ak (tag_bytes x)) → Allowed a
lone_allowed (Act.notify v c) b p ak x f = signed_allowed (Msg.notify v c b (tag_bytes x)) b f (itself b (speaker_below b (held f).3.3.3.3.2))
lone_allowed (Act.ack v r c) b p ak x f = signed_allowed (Msg.ack v r c b (tag_bytes x)) b f (itself b (speaker_below b (held f).3.3.3.3.3.2))
lone_allowed (Act.ready v r c) b p ak x f = signed_allowed (Msg.ready v r c b (tag_bytes x)) b f (itself b (speaker_below b (held f).3.3.3.3.3.2))
lone_allowed (Act.deputy v r) b p ak x f = signed_allowed (Msg.deputy v r b (tag_bytes x)) b f (itself b (speaker_below b (held f).3.3.3.2))
lone_allowed (Act.last v r e) b p ak x f =
    signed_allowed (Msg.last v r b (record { entry = e; tag = tag_bytes x }) p ak) b f (itself b (speaker_below b (held f).3.3.3.2))
lone_allowed (Act.init v s n k w) b p ak x f = signed_allowed (Msg.init v s n k w (tag_bytes x)) s f (itself s (held f).3.3.1)
lone_allowed (Act.echo v s n k w) b p ak x f = signed_allowed (Msg.echo v s n k w b (tag_bytes x)) b f (itself b (speaker_below b (held f).3.3.3.3.3.3.2.2))

pub only_byte : (b : ℕ) → only b < 256
unfolding only
only_byte b = omega (arith, div-le_self 128 (2 ^ b))

pub within : (a b v : ℕ) → a ≤ v → v ≤ b → from_to a b v ≡ true
within a b v l m = and_from _ _ (le-leb a v l) (le-leb v b m)

-- What the fields of a message are checked by.
pub ruleset fields = (arith, within, only_byte, lone_below, tag_fits, stored_long, stored_fits)

formed_notify : (v c b t : ℕ) → 1 ≤ v → v ≤ 64 → c < 8 → b < 8 → Formed (Msg.notify v c b (tag_bytes t))
formed_notify v c b t v1 v2 hc hb =
    stand message _ Grammar.done (search fields)

formed_ack : (v k c b t : ℕ) → 1 ≤ v → v ≤ 64 → 1 ≤ k → k ≤ 8 → c < 8 → b < 8 → Formed (Msg.ack v k c b (tag_bytes t))
formed_ack v k c b t v1 v2 k1 k2 hc hb =
    stand message _ Grammar.done (search fields)

formed_ready : (v k c b t : ℕ) → 1 ≤ v → v ≤ 64 → 1 ≤ k → k ≤ 8 → c < 8 → b < 8 → Formed (Msg.ready v k c b (tag_bytes t))
formed_ready v k c b t v1 v2 k1 k2 hc hb =
    stand message _ Grammar.done (search fields)

formed_deputy : (v k b t : ℕ) → 1 ≤ v → v ≤ 64 → 1 ≤ k → k ≤ 8 → b < 8 → Formed (Msg.deputy v k b (tag_bytes t))
formed_deputy v k b t v1 v2 k1 k2 hb =
    stand message _ Grammar.done (search fields)

-- A last is formed with an entry that is allowed and a proof that is there exactly if the entry has an earlier rank.
pub formed_last : (v k b : ℕ) (e : Entry) (p : ℕ) (ts : List ℕ) (t : ℕ) → 1 ≤ v → v ≤ 64 → 1 ≤ k → k ≤ 8 → b < 8 → EntryAllowed e → p < 256
    → from_to (cond (eqb e.earlier 0) 0 1) (cond (eqb e.earlier 0) 0 255) p ≡ true → Formed (Msg.last v k b (record { entry = e; tag = tag_bytes t }) p (stored_tags p ts))
formed_last v k b e p ts t v1 v2 k1 k2 hb a byte o =
    stand message _ Grammar.done (search fields)

-- What a row that is able can say in its latest view: an ack, a ready, a notify, a deputy.
module _ {S : Type 0} (g : Ghosts S) where
  pub can_ack : (w : Row) (b v k c : ℕ) (s : S) (out : List ℕ) → b ≡ w.state.board → v ≡ latest w.state → 1 ≤ k → k ≤ 8 → c < 8 → Able g s out → Speakable g b (Act.ack v k c) 0 [] s out
  can_ack w b v k c s out d e k1 k2 hc able =
      let hb : b < 8 = omega (arith, d, w.seated) in
      record { seated = hb; formed = λ t. formed_ack v k c b t (omega (arith, e, w.sound.counted.2)) (omega (arith, e, w.sound.counted.3)) k1 k2 hc hb; able = able }

  pub can_ready : (w : Row) (b v k c : ℕ) (s : S) (out : List ℕ) → b ≡ w.state.board → v ≡ latest w.state → 1 ≤ k → k ≤ 8 → c < 8 → Able g s out → Speakable g b (Act.ready v k c) 0 [] s out
  can_ready w b v k c s out d e k1 k2 hc able =
      let hb : b < 8 = omega (arith, d, w.seated) in
      record { seated = hb; formed = λ t. formed_ready v k c b t (omega (arith, e, w.sound.counted.2)) (omega (arith, e, w.sound.counted.3)) k1 k2 hc hb; able = able }

  pub can_notify : (w : Row) (b v c : ℕ) (s : S) (out : List ℕ) → b ≡ w.state.board → v ≡ latest w.state → c < 8 → Able g s out → Speakable g b (Act.notify v c) 0 [] s out
  can_notify w b v c s out d e hc able =
      let hb : b < 8 = omega (arith, d, w.seated) in
      record { seated = hb; formed = λ t. formed_notify v c b t (omega (arith, e, w.sound.counted.2)) (omega (arith, e, w.sound.counted.3)) hc hb; able = able }

  pub can_deputy : (w : Row) (b v k : ℕ) (s : S) (out : List ℕ) → b ≡ w.state.board → v ≡ latest w.state → 1 ≤ k → k ≤ 8 → Able g s out → Speakable g b (Act.deputy v k) 0 [] s out
  can_deputy w b v k s out d e k1 k2 able =
      let hb : b < 8 = omega (arith, d, w.seated) in
      record { seated = hb; formed = λ t. formed_deputy v k b t (omega (arith, e, w.sound.counted.2)) (omega (arith, e, w.sound.counted.3)) k1 k2 hb; able = able }

  -- What a board can say goes out.
  pub goes_out : (b to : ℕ) (a : Act) (p : ℕ) (ak out : List ℕ) (s : S) (r : Option Sent) (s2 : S) (out2 : List ℕ) → Speakable g b a p ak s out → Speaks g b to a p ak out s r s2 out2 → IsSome r
  goes_out b to a p ak out s (Some x) s2 out2 h k = refl
  goes_out b to a p ak out s None s2 out2 h k = absurd (k.0 h)

-- A board that there is, with the words of an allowed act, is refused only by a spent scheme.
never_refused : {S : Type 0} {s s2 : S} {spent : Bool} {b : ℕ} {w : List ℕ} {e : SignRefusal} → Refused s s2 spent b w e → (a : Act) → Allowed a → w ≡ words a → b < 8 → spent ≡ false → ⊥
never_refused {b = b} {w = w} r a h e hb hs =
    let l = words_long a h in
    let n = ap length e in
    both_ways _ hs (refused_spent r (and_from _ _ (lt-ltb b 8 hb) (and_from _ _ (lt-ltb 0 (length w) (omega arith)) (le-leb (length w) 64 (omega arith))))).0

-- So what the scheme answers is a tag for the act, or none and then nothing changes.
pub signed_for : {S : Type 0} (g : Ghosts S) (b : ℕ) (a : Act) (w : List ℕ) (s s2 : S) (r : Result ℕ SignRefusal) (o : Option ℕ)
    → o ≡ result_ok r → w ≡ words a → Allowed a → Signing g.good g.spent s s2 b w r → SignsFor g b a s o s2
signed_for g b a w s s2 (Ok tag) o e n ha h =
    subst (λ x. SignsFor g b a s x s2) (sym e) (ha, subst (λ x. Signed (g.good s) (g.good s2) (g.spent s) b x tag) n h)
signed_for g b a w s s2 (Err d) o e n ha h = subst (λ x. SignsFor g b a s x s2) (sym e) (λ hb _ hs. never_refused h a ha n hb hs, h.same)

-- What was signed goes out, since the message is formed with any tag and there is room for it.
pub spoken : {S : Type 0} (g : Ghosts S) (b to : ℕ) (act : Act) (p : ℕ) (ak out : List ℕ) (s s2 : S) (tag : ℕ) (out2 : List ℕ) (m : Msg) (r : Option Sent)
    → m ≡ lone act b p ak (tag_bytes tag) → Formed (lone act b p ak (tag_bytes 0)) → 128 ≤ length out → Signed (g.good s) (g.good s2) (g.spent s) b (words act) tag
    → GoesOut to m out r out2 → Speaks g b to act p ak out s r s2 out2
spoken g b to act p ak out s s2 tag out2 m (Some a) e f l sg go = record { tag = tag; signed = sg; posted = subst (λ x. Posted to x out a out2) e go.1 }
spoken g b to act p ak out s s2 tag out2 m None e f l sg go =
    let f2 = retag act b p ak 0 tag f in
    let n = lone_short act b p ak tag f2 in
    absurd (go.0 (subst Formed (sym e) f2) (subst (λ x. length (form x) ≤ length out) (sym e) (omega arith)))

none_long : (xs : List ℕ) → length xs ≡ 0 → xs ≡ []
none_long [] e = refl
none_long (x ∷ xs) e = absurd (omega arith)

-- A statement that has no proof has no acks.
pub no_tags : (ts : List ℕ) → stored_tags 0 ts ≡ []
no_tags ts = none_long (stored_tags 0 ts) (omega (arith, stored_long 0 ts, size_none))

pub no_acks : {S : Type 0} (g : Ghosts S) (b to : ℕ) (act : Act) (ak out : List ℕ) (s s2 : S) (out2 : List ℕ) (r : Option Sent) → ak ≡ [] → Speaks g b to act 0 ak out s r s2 out2 → Speaks g b to act 0 [] out s r s2 out2
no_acks g b to act ak out s s2 out2 r e h = subst (λ x. Speaks g b to act 0 x out s r s2 out2) e h
