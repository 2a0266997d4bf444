-- Tasks, and sets of task numbers as spans in their form: qsub, -t.
pub use Rattle.ge_rows.specs.declared.tasks.TaskId.{TaskId}
pub use Rattle.ge_rows.specs.declared.tasks.TaskSpan.{TaskSpan}
pub use Rattle.ge_rows.specs.TaskSet.{is_single, is_run, is_apart, is_form_from, is_form}
