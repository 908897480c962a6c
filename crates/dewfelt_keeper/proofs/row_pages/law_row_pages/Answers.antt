use Rattle.dewfelt_keeper.proofs.RowPaging.{all_pages, from_none, one_page}
use Rattle.dewfelt_keeper.proofs.row_pages.law_row_pages.Goals as goal

pub returns-clause-one : goal.returns-clause-one
returns-clause-one c = one_page

pub returns-clause-all : goal.returns-clause-all
returns-clause-all c = all_pages

pub returns-clause-whole : goal.returns-clause-whole
returns-clause-whole c = from_none
