use Rattle.dewfelt_board.proofs.strangers.Strangers.as_slice.Goals as goal

pub returns-clause-most_of_address : goal.returns-clause-most_of_address
returns-clause-most_of_address c = λ address. rw c.as_slice.ensures.value (c.args.self.now.most_of_address address)
