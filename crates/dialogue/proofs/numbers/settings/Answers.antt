-- One number after the other.
use Rattle.dialogue.proofs.Counting.{fits_byte, fits_word, all-given}
use Rattle.dialogue.proofs.numbers.settings.Goals as goal

pub overflow_cast-settings : goal.overflow_cast-settings
overflow_cast-settings c = fits_word _ _ _ c.next-receive.ensures

pub overflow_cast-settings-2 : goal.overflow_cast-settings-2
overflow_cast-settings-2 c = fits_byte _ _ _ c.next-unit.ensures

pub overflow_cast-settings-3 : goal.overflow_cast-settings-3
overflow_cast-settings-3 c = fits_byte _ _ _ c.next-block.ensures

pub overflow_cast-settings-4 : goal.overflow_cast-settings-4
overflow_cast-settings-4 c = fits_byte _ _ _ c.next-t1.ensures

pub overflow_cast-settings-5 : goal.overflow_cast-settings-5
overflow_cast-settings-5 c = fits_byte _ _ _ c.next-t3.ensures

pub overflow_cast-settings-6 : goal.overflow_cast-settings-6
overflow_cast-settings-6 c = fits_word _ _ _ c.next-t_e.ensures

pub overflow_cast-settings-7 : goal.overflow_cast-settings-7
overflow_cast-settings-7 c = fits_byte _ _ _ c.next-mntc.ensures

pub overflow_cast-settings-8 : goal.overflow_cast-settings-8
overflow_cast-settings-8 c = fits_byte _ _ _ c.next-mntb.ensures

pub overflow_cast-settings-9 : goal.overflow_cast-settings-9
overflow_cast-settings-9 c = fits_word _ _ _ c.next-t_wait.ensures

pub overflow_cast-settings-10 : goal.overflow_cast-settings-10
overflow_cast-settings-10 c = fits_word _ _ _ c.next-t_ct.ensures

pub overflow_cast-settings-11 : goal.overflow_cast-settings-11
overflow_cast-settings-11 c = fits_byte _ _ _ c.next-mnct.ensures

pub returns : goal.returns
returns c =
    all-given _ _ _ _ _ _ _ _ _ _ _ _ _ _
    c.next-mnct.ensures
    c.next-t_ct.ensures
    c.next-t_wait.ensures
    c.next-mntb.ensures
    c.next-mntc.ensures
    c.next-t_e.ensures
    c.next-t3.ensures
    c.next-t1.ensures
    c.next-block.ensures
    c.next-unit.ensures
    c.next-receive.ensures
    c.none.ensures
    c.out_of_range_if.ensures
