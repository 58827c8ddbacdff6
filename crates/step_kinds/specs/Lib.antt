pub mod StepsByKind
