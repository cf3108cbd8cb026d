use Rattle.std.proofs.Common.{◌≡◌, ◌++◌, ◌∙◌, List, ap, append_assoc, filter, map, subst, sym}
use Rattle.object_table.specs.Rows.{Ascends}
use Rattle.enrollment.specs.declared.subject.Subject.{Subject}
use Rattle.enrollment.specs.Subjects.{is_before_enrollments, is_behind_enrollments, object_of, subject_of_enrollment, subject_of_object}
use Rattle.enrollment.proofs.SubjectOrder.{ascends}
use Rattle.enrollment.proofs.subjects.subjects_of.Goals as goal

pub returns-clause-ascending : goal.returns-clause-ascending
returns-clause-ascending c =
    let objects = c.args.objects.now in
    let enrollments = c.args.enrollments.now in
    let before : List Subject = map subject_of_object (filter is_before_enrollments objects) in
    let between : List Subject = map subject_of_enrollment enrollments in
    let behind : List Subject = map subject_of_object (filter is_behind_enrollments objects) in
    let first : c.add_before.new.subjects.items ≡ before = c.in_ok-add_before.ensures.added ∙ ap (λ subjects. subjects ++ before) c.new-subjects.ensures.items in
    let second : c.add_enrollments.new.subjects.items ≡ before ++ between = c.in_ok-add_enrollments.ensures.added ∙ ap (λ subjects. subjects ++ between) first in
    let third : c.add_behind.new.subjects.items ≡ (before ++ between) ++ behind = c.in_ok-add_behind.ensures.added ∙ ap (λ subjects. subjects ++ behind) second in
    subst (λ subjects. Ascends (map object_of subjects)) (sym (third ∙ append_assoc before between behind))
    (ascends objects enrollments c.requires.objects_ascend c.requires.objects c.requires.enrollments_ascend c.requires.enrollments)
