use Rattle.dewfelt_board.proofs.Orders.{pages}
use Rattle.dewfelt_board.proofs.order.law_pages.Goals as goal

pub returns : goal.returns
returns c = pages
