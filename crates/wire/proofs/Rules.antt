-- The rule set that proofs of functions search with. Assumes nothing.
use borrow.Author.Rules.{rules}
use borrow.Author.Tests.{le-leb, lt-leb, lt-ltb, le-ltb, eq-eqb, ne_eqb}

-- what decides the tests that a definition makes, from the branches that the code took: closes a `returns` whose definition makes the
-- code's tests
pub ruleset tests = (rules, le-leb, lt-leb, lt-ltb, le-ltb, eq-eqb, ne_eqb)
