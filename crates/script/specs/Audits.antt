-- Audits as text: the boards whose tags are good, then those whose tags are not.
-- They stand at the end of a message's text; a kind with a proof has two more fields for the boards of the proof.
use Rattle.std.specs.Prelude.{ℕ, List, [], ◌++◌, Some, None, codes, Option}
use Rattle.script.specs.declared.audit.Verdict.{Verdict}
use Rattle.script.specs.declared.audit.Audit.{Audit}
use Rattle.script.specs.Texts.{field, boards_text}

-- The good boards and the bad ones, each under a name.
abbrev pub verdict_text : List ℕ → List ℕ → Verdict → List ℕ
verdict_text good bad v = field good (boards_text v.good.bits) ++ field bad (boards_text v.bad.bits)

-- The boards of a proof, if there is one.
abbrev pub proof_verdict : Option Verdict → List ℕ
proof_verdict (Some v) = verdict_text (codes "proofgood") (codes "proofbad") v
proof_verdict None = []

-- An audit: the signers, and then the boards of the proof.
abbrev pub audit_text : Audit → List ℕ
audit_text a = verdict_text (codes "good") (codes "bad") a.signers ++ proof_verdict a.proof
