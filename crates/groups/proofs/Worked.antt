-- The examples, computed: which boards digits stand for, and which views a change makes.
-- The sets and histories here are given ones, so that all that is said of them computes.
use Rattle.std.proofs.Common.{◌≡◌, ℕ, ◌<◌, ◌≤◌, Bool, true, false, not, List, sym, refl, inl, inr, codes, arith}
use Rattle.std.specs.Fmt.{digits}
use Rattle.boards.specs.Boards.{every, member, only, size, place, tally}
use Rattle.boards.proofs.Chosen.{every_at}
use Rattle.codes.specs.declared.Refusal.TheVariants.{Board}
use Rattle.views.specs.declared.view.View.{View}
use Rattle.views.specs.Groups.{toggle}
use Rattle.views.specs.Histories.{members_from, members_of, begun, grown, Open}
use Rattle.views.specs.Shares.{share, quorum}
use Rattle.script.specs.Texts.{commas, field, listing}
use Rattle.wire.specs.Messages.{listed}
use Rattle.groups.specs.Groups.{named, Latest, Changes}
use Rattle.groups.specs.Examples.{Examples}

same : Bool → Bool → Bool
same true y = y
same false y = not y

same_is : (x y : Bool) → same x y ≡ true → x ≡ y
unfolding same
same_is true y e = sym e
same_is false true e = e
same_is false false e = refl

-- the digits' boards are tried one by one
all_named : (ds : List ℕ) (s : ℕ) → every (λ b. same (member s b) (named ds b)) 8 ≡ true → (b : ℕ) → b < 8 → member s b ≡ named ds b
all_named ds s e b h = same_is (member s b) (named ds b) (every_at (λ k. same (member s k) (named ds k)) 8 b e h)

some_of : (s n : ℕ) → size s ≡ n → 1 ≤ n → 1 ≤ size s
some_of s n e h = omega (arith, e, h)

-- three first views
five : View
unfolding size tally member
five = record { set = record { bits = 0xF8 }; some = some_of 0xF8 5 refl (omega arith) }

two : View
unfolding size tally member
two = record { set = record { bits = 0x50 }; some = some_of 0x50 2 refl (omega arith) }

one : View
unfolding size tally member
one = record { set = record { bits = 0x20 }; some = some_of 0x20 1 refl (omega arith) }

pub worked : Examples
unfolding digits every member only size place tally toggle members_from members_of begun grown share quorum commas field listing listed same five two one
worked =
    let five1 : Latest (begun five.set) (record { view = 1; members = record { bits = 0xF8 }; f = 1; q = 4; manager = 4 }) =
    record { number = refl; members = refl; faulty = refl; enough = refl; leads = (refl, refl) } in
    let five2 : Latest (grown (begun five.set) 2) (record { view = 2; members = record { bits = 0xD8 }; f = 1; q = 3; manager = 4 }) =
    record { number = refl; members = refl; faulty = refl; enough = refl; leads = (refl, refl) } in
    let two1 : Latest (begun two.set) (record { view = 1; members = record { bits = 0x50 }; f = 0; q = 2; manager = 3 }) =
    record { number = refl; members = refl; faulty = refl; enough = refl; leads = (refl, refl) } in
    let one1 : Latest (begun one.set) (record { view = 1; members = record { bits = 0x20 }; f = 0; q = 1; manager = 2 }) =
    record { number = refl; members = refl; faulty = refl; enough = refl; leads = (refl, refl) } in
    let may : Open (begun five.set) 2 = record { board = omega arith; room = omega arith; some = some_of 0xD8 4 refl (omega arith) } in
    record {
      leaves = inl (five, (refl, all_named (codes "01234") 0xF8 refl), Changes.more five1 may (Changes.over five2));
      first_line = refl;
      last_line = refl;
      twice = inl (two, (refl, all_named (codes "3113") 0x50 refl), Changes.over two1);
      nobody = λ n cs text. inr (Board, (inl refl, refl), refl, refl);
      no_member = λ n cs text. inr (Board, (inr refl, refl), refl, refl);
      no_change = λ ds. inl (one, (refl, all_named (codes "2") 0x20 refl), Changes.shut one1 (inl (omega arith, refl)));
      only_member = λ ds. inl (one, (refl, all_named (codes "2") 0x20 refl), Changes.shut one1 (inr (omega arith, inr refl, refl)));
    }
