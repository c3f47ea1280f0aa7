-- What the automata of a text's two sides say of machines, in one (this project's own).
use Rattle.satisfaction.specs.Laws.{AcceptedEnvironmentsDefeat, AcceptedSystemsSatisfy, RejectedEnvironmentsCanLose}

pub record SidesMean : Type 0 where
  pub systems : AcceptedSystemsSatisfy
  pub environments : AcceptedEnvironmentsDefeat
  pub can_lose : RejectedEnvironmentsCanLose
