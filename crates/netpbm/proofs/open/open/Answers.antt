use Rattle.std.proofs.Common.{rules}
use Rattle.netpbm.specs.Headers.{no_letters, no_width, no_height, no_maximum, page}
use Rattle.netpbm.proofs.Judged.{lettered, not_lettered, refused}
use Rattle.netpbm.proofs.open.open.Goals as goal

pub returns-then-not-starts_with : goal.returns-then-not-starts_with
returns-then-not-starts_with c = search (rules, no_letters, not_lettered)

pub returns-in_err-width : goal.returns-in_err-width
returns-in_err-width c = search (rules, refused, no_width, lettered)

pub returns-in_err-height : goal.returns-in_err-height
returns-in_err-height c = search (rules, refused, no_height, lettered)

pub returns-in_err-maximum : goal.returns-in_err-maximum
returns-in_err-maximum c = search (rules, refused, no_maximum, lettered)

pub returns : goal.returns
returns c = search (rules, page, lettered)
