use Rattle.desk_http.proofs.Fields.{after_one, after_more}
use Rattle.desk_http.proofs.head.one_more.Goals as goal

pub returns-in-Once : goal.returns-in-Once
returns-in-Once c values once = after_one _ _ values _ c.in-Once.is once

pub returns-in-Repeated : goal.returns-in-Repeated
returns-in-Repeated c values twice = after_more _ values _ c.in-Repeated.is twice
