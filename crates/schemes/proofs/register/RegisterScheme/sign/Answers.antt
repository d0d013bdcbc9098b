-- What a row more means for the scheme.
-- That the row is entered is closed by the search.
use Rattle.std.proofs.Common.{◌+◌, slice_set, rules}
use Rattle.schemes.proofs.Rows.{entered_signed}
use Rattle.schemes.proofs.register.RegisterScheme.sign.Goals as goal

pub returns-clause-meaning : goal.returns-clause-meaning
returns-clause-meaning c =
    let rows = c.args.self.now.rows.now in
    let used = c.args.self.now.used in
    entered_signed {rows = rows} {rows2 = slice_set rows used c.of.result} {used = used} {used2 = used + 1} (search rules)
