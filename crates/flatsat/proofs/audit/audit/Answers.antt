-- Both parts of a message under the keys given, which are the scheme's.
-- A kind without a proof has only the first.
use Rattle.std.proofs.Common.{sym, ◌∙◌, subst}
use Rattle.schemes.specs.Keys.{keyed_good}
use Rattle.wire.specs.Messages.{meaning}
use Rattle.checks.specs.declared.Part.TheVariants.{Signers, Proof}
use Rattle.flatsat.specs.Audits.{Judged}
use Rattle.flatsat.proofs.audit.audit.Goals as goal

pub returns-then-has_proof : goal.returns-then-has_proof
returns-then-has_proof c formed =
    let m = meaning c.args.m.now in
    record {
      signed = subst (λ k. Judged Signers (keyed_good k) m c.verdict-signers.result) c.new-scheme.ensures (c.verdict-signers.ensures formed);
      proved = (sym c.has_proof.ensures ∙ c.if-has_proof.true, subst (λ k. Judged Proof (keyed_good k) m c.verdict.result) c.new-scheme.ensures (c.verdict.ensures formed));
    }

pub returns-else-has_proof : goal.returns-else-has_proof
returns-else-has_proof c formed =
    let m = meaning c.args.m.now in
    record {
      signed = subst (λ k. Judged Signers (keyed_good k) m c.verdict-signers.result) c.new-scheme.ensures (c.verdict-signers.ensures formed);
      proved = sym c.has_proof.ensures ∙ c.if-has_proof.false;
    }
