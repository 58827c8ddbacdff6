mod AfterSteps
