pub mod PlanEq
