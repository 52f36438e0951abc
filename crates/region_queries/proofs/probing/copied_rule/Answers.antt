use Rattle.region_queries.proofs.probing.copied_rule.Goals as goal

pub returns-then-not-is_own : goal.returns-then-not-is_own
returns-then-not-is_own g c = rw c.if-not-is_own.true c.barred_rule.ensures
