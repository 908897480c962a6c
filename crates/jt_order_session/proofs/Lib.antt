-- How the proofs lie, for who changes them.
--
-- A piece of the octets is one item (feed_item), so at most one turn: the session's turns and the own stream's item are joined by what both
-- were given (StandsForOrders), which clauses take as a premise and the struct's invariant keeps as 'not without' (HaveRead), since an
-- invariant must be a proposition. Walking has the lemmas of pieces one behind the other, Items those of one item, Causes those of a book
-- that is told twice, Offers those of an offer, Responding that a response is what it
-- is in the world of orders.
pub mod Walking
pub mod Items
pub mod Causes
pub mod Offers
pub mod Responding
