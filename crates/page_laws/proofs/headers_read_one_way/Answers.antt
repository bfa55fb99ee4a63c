use Rattle.page_laws.proofs.One.{one_reading}
use Rattle.page_laws.proofs.headers_read_one_way.Goals as goal

pub returns : goal.returns
returns c = one_reading
