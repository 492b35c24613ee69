mod Courses
mod Findings
mod Leavers
